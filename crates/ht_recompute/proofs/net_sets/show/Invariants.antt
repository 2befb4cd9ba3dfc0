use Rattle.std.proofs.Common.{◌≡◌, ◌++◌, take, drop}
use Rattle.ht_net.specs.Frames.Frame.{values_at}
use Rattle.ht_recompute.specs.GateSets.{sets_of}
use Rattle.ht_recompute.proofs.net_sets.show.Given as goal

abbrev pub invariant-loop-o : goal.invariant-loop-o
invariant-loop-o l =
    take l.o l.outputs ++ values_at (sets_of l.values) (drop l.o l.circuit.outputs)
    ≡ values_at (sets_of l.values) l.circuit.outputs
