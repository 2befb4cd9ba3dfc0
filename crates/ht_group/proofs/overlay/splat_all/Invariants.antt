use Rattle.std.proofs.Common.{◌≡◌, ◌<◌, ℕ, length}
use Rattle.ht_group.specs.Overlays.{IsGoodWord}
use Rattle.ht_group.proofs.overlay.splat_all.Given as goal

abbrev pub invariant-loop-x : goal.invariant-loop-x
invariant-loop-x l = record {
  count : length l.words ≡ length l.good;
  done : (i : ℕ) → i < l.x → IsGoodWord l.good l.words i;
}
