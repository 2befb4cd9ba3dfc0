use Rattle.std.proofs.Common.{arith}
use Rattle.std.proofs.lemmas.Grind.{common_steps, elements}
use Rattle.ht_bench.proofs.MentionLaws.{name_stays}
use Rattle.ht_bench.proofs.NameListLaws.{with_names-long}
use Rattle.ht_bench.proofs.add_line.add_gate.Goals as goal

pub returns-in_err-out_id-clause-refusal : goal.returns-in_err-out_id-clause-refusal
returns-in_err-out_id-clause-refusal c = grind (arith, with_names-long)

pub gate-requires-clause-out : goal.gate-requires-clause-out
gate-requires-clause-out c = (name_stays c.in_ok-arg_ids.ensures.mentions _ c.in_ok-out_id.ensures.found.number.0).0

pub gate-requires-clause-arity : goal.gate-requires-clause-arity
gate-requires-clause-arity c = grind (arith, common_steps)

pub returns-clause-accepts : goal.returns-clause-accepts
returns-clause-accepts c =
    let out = name_stays c.in_ok-arg_ids.ensures.mentions _ c.in_ok-out_id.ensures.found.number.0 in
    (grind (arith, common_steps), grind (arith, common_steps))

pub mention_all-requires : goal.mention_all-requires
mention_all-requires c = grind (arith, elements)

pub gate-requires-clause-few : goal.gate-requires-clause-few
gate-requires-clause-few c = grind (arith, elements)
