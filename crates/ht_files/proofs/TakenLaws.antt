-- The elements of a list from one place on, up to another.
use Rattle.std.proofs.Common.{◌≡◌, ◌<◌, ◌≤◌, ◌+◌, ◌++◌, ◌∙◌, ℕ, List, [], ◌∷◌, get_or, length, take, drop, refl, sym, ap, arith}
use Rattle.std.proofs.lemmas.List.{drop-append-le, drop_all, length-take-le, take_all, take_more}

-- none yet
pub none_yet : {A : Type 0} (n : ℕ) (xs : List A) → n ≤ length xs → drop n (take n xs) ≡ []
none_yet n xs inside = drop_all n (take n xs) (let long = length-take-le n xs inside in omega (arith, long))

-- one more
pub one_further : {A : Type 0} (n t : ℕ) (xs : List A) (d : A) → n ≤ t → t < length xs
    → drop n (take (t + 1) xs) ≡ drop n (take t xs) ++ get_or xs t d ∷ []
one_further n t xs d low inside =
    let long = length-take-le t xs (omega (arith, inside)) in
    ap (drop n) (take_more xs t d inside) ∙ drop-append-le n (take t xs) (get_or xs t d ∷ []) (omega (arith, low, long))

-- all of them
pub all_there : {A : Type 0} (n : ℕ) (xs : List A) → drop n (take (length xs) xs) ≡ drop n xs
all_there n xs = ap (drop n) (take_all (length xs) xs (omega arith))
