use Rattle.std.proofs.Common.{◌≡◌, ◌+◌, length, take}
use Rattle.ht_net.specs.Detect.Detection.{terns_of}
use Rattle.ht_group.proofs.good_frame.join.Given as goal

abbrev pub invariant-loop-i : goal.invariant-loop-i
invariant-loop-i l = record {
  count : length l.sources ≡ length l.vector + length l.latches;
  done : take l.i l.sources ≡ terns_of (take l.i l.vector);
}
