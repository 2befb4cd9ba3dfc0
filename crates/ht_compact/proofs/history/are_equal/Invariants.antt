use Rattle.std.proofs.Common.{◌≡◌, ◌<◌, ℕ, get_or}
use Rattle.ht_group.specs.declared.diffs.Diff.{Diff}
use Rattle.ht_compact.proofs.history.are_equal.Given as goal

abbrev pub invariant-loop-i : goal.invariant-loop-i
invariant-loop-i l = (k : ℕ) (d : Diff) → k < l.i → get_or l.some k d ≡ get_or l.others k d
