use Rattle.std.proofs.Common.{take}
use Rattle.ht_stems.specs.LoadsOfNets.{CountsMore}
use Rattle.ht_stems.proofs.net_loads.add_gate.Given as goal

abbrev pub invariant-loop-arg : goal.invariant-loop-arg
invariant-loop-arg l = CountsMore l.circuit l.fn.table l.table (take l.arg-index l.arg-items)
