use Rattle.std.proofs.Common.{take}
use Rattle.ht_stems.specs.LoadsOfNets.{CountsMore}
use Rattle.ht_stems.proofs.net_loads.add_latches.Given as goal

abbrev pub invariant-loop-dff : goal.invariant-loop-dff
invariant-loop-dff l = CountsMore l.circuit l.fn.table l.table (take l.dff l.circuit.dffs)
