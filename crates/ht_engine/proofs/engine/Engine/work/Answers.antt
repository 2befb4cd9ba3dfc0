use Rattle.std.proofs.lemmas.Grind.{elements}
use Rattle.std.proofs.Common.{subst, sym, arith}
use Rattle.ht_engine.specs.declared.work.Work.TheVariants as work
use Rattle.ht_engine.specs.EngineStands.{EngineView}
use Rattle.ht_engine.specs.OneStep.{IsWorkOn}
use Rattle.ht_engine.proofs.engine.Engine.work.Goals as goal

pub give_list-requires-clause-work : goal.give_list-requires-clause-work
give_list-requires-clause-work c =
    subst (λ (e : EngineView). IsWorkOn e c.in-Some.fault (work.List c.in-List.list))
    (sym c.work_by_search.ensures.same)
    (subst (IsWorkOn c.args.self.now c.in-Some.fault) c.in-List.is c.in_ok-list.ensures.work)

pub give_entry-requires-clause-work : goal.give_entry-requires-clause-work
give_entry-requires-clause-work c =
    subst (λ (e : EngineView). IsWorkOn e c.in-Some.fault (work.Entry c.in-Entry.entry))
    (sym c.work_by_search.ensures.same)
    (subst (IsWorkOn c.args.self.now c.in-Some.fault) c.in-Entry.is c.in_ok-list.ensures.work)

pub work_by_search-requires : goal.work_by_search-requires
work_by_search-requires c = grind (arith, elements)

pub give_list-requires-clause-next : goal.give_list-requires-clause-next
give_list-requires-clause-next c = grind (arith, elements)

pub give_entry-requires-clause-next : goal.give_entry-requires-clause-next
give_entry-requires-clause-next c = grind (arith, elements)
