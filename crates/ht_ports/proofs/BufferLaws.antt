-- Bytes in a buffer.
use Rattle.std.proofs.Common.{◌≡◌, ℕ, ◌+◌, ◌-◌, ◌≤◌, List, ◌++◌, length, take, drop, refl, sym, ◌∙◌, ap, arith}
use Rattle.std.proofs.lemmas.List.{drop-take, drop-drop, take-take, length-take-le}
use Rattle.std.proofs.lemmas.Slice.{take-put_mid}
use Rattle.std.proofs.Math.Seq.{take-append-add}
use borrow.Rule.Slice.PartMut.{put_mid}

-- the front of a part that was written
pub take-written : (a k n : ℕ) (xs ys : List ℕ) → a ≤ length xs → n ≤ length ys → take (a + n) (put_mid a k xs ys)
    ≡ take a xs ++ take n ys
take-written a k n xs ys fits few =
    let long : length (take a xs) ≡ a = length-take-le a xs fits in
    sym (take-take (a + n) (a + length ys) (put_mid a k xs ys) (omega arith))
    ∙ ap (take (a + n)) (take-put_mid a k xs ys (a + length ys) refl fits)
    ∙ ap (λ m. take (m + n) (take a xs ++ ys)) (sym long)
    ∙ take-append-add (take a xs) ys n

-- a shorter part
pub take-skipped : (start end n : ℕ) (xs : List ℕ) → start + n ≤ end → take (end - (start + n)) (drop (start + n) xs)
    ≡ drop n (take (end - start) (drop start xs))
take-skipped start end n xs le =
    ap (take (end - (start + n))) (sym (drop-drop n start xs))
    ∙ sym (drop-take n (end - (start + n)) (drop start xs))
    ∙ ap (λ m. drop n (take m (drop start xs))) (omega arith)
