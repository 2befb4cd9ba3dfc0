use Rattle.std.proofs.Common.{◌≡◌, take}
use Rattle.ht_causes.proofs.track.copy_diffs.Given as goal

abbrev pub invariant-loop-diff : goal.invariant-loop-diff
invariant-loop-diff l = l.to ≡ take l.diff-index l.from
