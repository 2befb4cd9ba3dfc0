use Rattle.std.proofs.Common.{◌≡◌, ◌<◌, ◌≤◌, ◌-◌, ℕ, false, length, get_or}
use Rattle.ht_group.specs.Overlays.{IsGoodWord}
use Rattle.ht_group.proofs.overlay.splat_written.Given as goal

abbrev pub invariant-loop-x : goal.invariant-loop-x
invariant-loop-x l = record {
  count : length l.words ≡ length l.good;
  within : l.from ≤ length l.good;
  done : (i : ℕ) → i < l.from → i < length l.good → IsGoodWord l.good l.words i;
  rest : (i : ℕ) → i < length l.good → get_or l.written i false ≡ false → IsGoodWord l.good l.words i;
}

abbrev pub decreases-loop-x : goal.decreases-loop-x
decreases-loop-x l = length l.good - l.from
