use Rattle.std.proofs.Common.{◌≡◌, map, take}
use Rattle.ht_net.specs.Detect.Detection.{some_bit}
use Rattle.ht_net.proofs.start.some_state.Given as goal

abbrev pub invariant-loop-value : goal.invariant-loop-value
invariant-loop-value l = l.state.items ≡ map some_bit (take l.value-index l.start)
