use Rattle.std.proofs.Common.{take}
use Rattle.ht_stems.specs.LoadsOfNets.{CountsMore}
use Rattle.ht_stems.proofs.net_loads.add_outputs.Given as goal

abbrev pub invariant-loop-output : goal.invariant-loop-output
invariant-loop-output l = CountsMore l.circuit l.fn.table l.table (take l.output l.circuit.outputs)
