use Rattle.std.proofs.Common.{◌≡◌, map, take}
use Rattle.ht_uninit.specs.Exposed.{begins_unmarked}
use Rattle.ht_uninit.proofs.work.hidden_faults.Given as goal

abbrev pub invariant-loop-k : goal.invariant-loop-k
invariant-loop-k l = l.hidden.items ≡ map (begins_unmarked l.circuit l.faults l.marks) (take l.k-index l.which)
