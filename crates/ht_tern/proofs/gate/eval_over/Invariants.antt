use Rattle.std.proofs.Common.{◌≡◌, drop}
use Rattle.ht_tern.specs.Gate.{gate_value_over, polarity_of, folded, operation_of}
use Rattle.ht_tern.proofs.gate.eval_over.Given as goal

abbrev pub invariant-loop-arg : goal.invariant-loop-arg
invariant-loop-arg g l =
    (blank : g.row.V.Denot) → polarity_of g.V.GateOperations.operations l.kind
    (folded (operation_of g.V.GateOperations.operations l.kind) l.value (drop l.arg-index l.arg-items))
    ≡ gate_value_over g.V.GateOperations.operations blank l.kind l.args
