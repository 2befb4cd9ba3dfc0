use Rattle.std.proofs.Common.{◌∙◌, ◌+◌, inr, ap, sym, refl}
use Rattle.ht_net.specs.Circuit.Netlist.{Netlist}
use Rattle.ht_engine.specs.EngineOf.{engine_of}
use Rattle.ht_engine.specs.EngineStands.{EngineView}
use Rattle.ht_engine.proofs.EngineLaws.{adds_graded}
use Rattle.ht_engine.proofs.engine.Engine.give_list.Goals as goal

pub apply-requires : goal.apply-requires
apply-requires c =
    c.requires.work.width c.args.list refl
    ∙ sym (ap (λ (n : Netlist). n.inputs)
    (c.self.invariant.engine.circuit ∙ ap (λ (v : EngineView). v.circuit) c.self.view_is))

pub returns-clause-advances : goal.returns-clause-advances
returns-clause-advances c = inr (record {
  none_left = c.requires.none_left;
  fault = c.args.fault;
  next = c.requires.next;
  work = c.requires.work;
  after = ap (λ (v : EngineView). record v { grader = c.apply.new.self; first_awaiting = c.args.fault + 1 }) c.self.view_is;
  graded = adds_graded (engine_of c.self.inside) c.args.self.now c.self.view_is c.apply.new.self
      c.in_ok-apply.ensures.same c.args.list.list c.in_ok-apply.ensures.added;
})
