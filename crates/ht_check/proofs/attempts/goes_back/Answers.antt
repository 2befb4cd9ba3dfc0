use Rattle.std.proofs.Common.{◌↔◌, ◌∙◌, List, IfOk, IsTrue, length, ap, subst}
use Rattle.ht_tern.specs.declared.tern.Tern.{Tern}
use Rattle.ht_tree.specs.Record.Reached.{Reaches}
use Rattle.ht_check.proofs.AttemptLaws.{cube_long}
use Rattle.ht_check.proofs.attempts.goes_back.Goals as goal

pub reaches-requires-clause-cube : goal.reaches-requires-clause-cube
reaches-requires-clause-cube c =
    ap length (c.deref.ensures.value ∙ c.in_ok-cube.ensures) ∙ cube_long c.args.circuit.now c.args.told.now

pub returns : goal.returns
returns c =
    subst (λ (cube : List Tern). IfOk c.reaches.result
    (λ goes. IsTrue goes ↔ Reaches c.args.circuit.now c.args.back.now.list cube))
    (c.deref.ensures.value ∙ c.in_ok-cube.ensures)
    c.reaches.ensures
