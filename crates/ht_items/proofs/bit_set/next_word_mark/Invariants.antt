use Rattle.std.proofs.Common.{◌≡◌, ◌<◌, ◌≤◌, ◌*◌, ℕ, false}
use Rattle.ht_items.specs.BitSets.{is_marked}
use Rattle.ht_items.proofs.bit_set.next_word_mark.Given as goal

abbrev pub invariant-loop-w : goal.invariant-loop-w
invariant-loop-w l = (q : ℕ) → 64 * l.fn.at ≤ q → q < 64 * l.w → is_marked l.words q ≡ false
