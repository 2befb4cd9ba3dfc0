-- The marked flip-flops of a start, one mark after the other.
use Rattle.std.proofs.Common.{◌≡◌, ◌<◌, ◌+◌, ◌++◌, ℕ, suc, List, [], ◌∷◌, Bool, true, false, cond, length, get_or, drop, refl, ◌∙◌, ap, arith}
use Rattle.std.proofs.Math.Seq.{drop-cons}
use Rattle.ht_window.specs.Starts.{marked}

-- the numbers from a mark on
pub marked_at : (marks : List Bool) (j : ℕ) → j < length marks → marked j (drop j marks)
    ≡ cond (get_or marks j false) (j ∷ []) [] ++ marked (j + 1) (drop (j + 1) marks)
marked_at marks j l =
    let next : suc j ≡ j + 1 = omega arith in
    ap (marked j) (drop-cons marks j false l ∙ ap (λ (n : ℕ). get_or marks j false ∷ drop n marks) next)
    ∙ out (get_or marks j false)
  where
    out : (b : Bool) → cond b (j ∷ marked (j + 1) (drop (j + 1) marks)) (marked (j + 1) (drop (j + 1) marks))
        ≡ cond b (j ∷ []) [] ++ marked (j + 1) (drop (j + 1) marks)
    out true = refl
    out false = refl
