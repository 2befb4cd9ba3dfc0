-- The first piece of a text, and its line.
use Rattle.std.proofs.Common.{◌≡◌, ◌≢◌, ℕ, suc, ◌+◌, ◌≤◌, List, [], ◌∷◌, ◌++◌, length, refl, ◌∙◌, ap, arith}
use Rattle.std.proofs.lemmas.Bool.Decides.{nat_tests}
use Rattle.std.proofs.lemmas.Grind.{common_steps}
use Rattle.ht_ports.specs.LineRule.{HasNoLf, first_piece, first_through, without_cr, pieces_of, before_first_piece}

-- where no byte is an LF, the first one isn't
pub no_lf_first : (x : ℕ) (xs : List ℕ) → HasNoLf (x ∷ xs) → x ≢ 10
no_lf_first x xs h = h 0 (omega arith)

-- where no byte is an LF, none after the first one is
pub no_lf_rest : (x : ℕ) (xs : List ℕ) → HasNoLf (x ∷ xs) → HasNoLf xs
no_lf_rest x xs h = λ k lt. h (suc k) (omega arith)

-- the first piece of a text is the bytes before its first LF
pub first_piece-lf : (piece more : List ℕ) → HasNoLf piece → first_piece (piece ++ 10 ∷ more) ≡ piece
first_piece-lf [] more h = refl
first_piece-lf (x ∷ piece) more h =
    let ne : x ≢ 10 = no_lf_first x piece h in
    let rest = first_piece-lf piece more (no_lf_rest x piece h) in
    grind (arith, nat_tests)

-- the first piece with its LF is the bytes up to the first LF of a text, and that LF
pub first_through-lf : (piece more : List ℕ) → HasNoLf piece → first_through (piece ++ 10 ∷ more) ≡ piece ++ 10 ∷ []
first_through-lf [] more h = refl
first_through-lf (x ∷ piece) more h =
    let ne : x ≢ 10 = no_lf_first x piece h in
    let rest = first_through-lf piece more (no_lf_rest x piece h) in
    grind (arith, nat_tests)

-- bytes without an LF before a text are added to the front of its first piece
pub first_piece-none : (piece more : List ℕ) → HasNoLf piece → first_piece (piece ++ more) ≡ piece ++ first_piece more
first_piece-none [] more h = refl
first_piece-none (x ∷ piece) more h =
    let ne : x ≢ 10 = no_lf_first x piece h in
    let rest = first_piece-none piece more (no_lf_rest x piece h) in
    grind (arith, nat_tests)

-- bytes without an LF before a text are added to the front of its first piece with its LF
pub first_through-none : (piece more : List ℕ) → HasNoLf piece → first_through (piece ++ more) ≡ piece
    ++ first_through more
first_through-none [] more h = refl
first_through-none (x ∷ piece) more h =
    let ne : x ≢ 10 = no_lf_first x piece h in
    let rest = first_through-none piece more (no_lf_rest x piece h) in
    grind (arith, nat_tests)

-- bytes without an LF, and then an LF, are one piece before those of the rest
pub pieces-lf : (piece more : List ℕ) → HasNoLf piece → pieces_of (piece ++ 10 ∷ more) ≡ piece ∷ pieces_of more
pieces-lf [] more h = refl
pieces-lf (x ∷ piece) more h =
    let ne : x ≢ 10 = no_lf_first x piece h in
    let rest = pieces-lf piece more (no_lf_rest x piece h) in
    let step : pieces_of (x ∷ (piece ++ 10 ∷ more)) ≡ before_first_piece x (pieces_of (piece ++ 10 ∷ more)) = grind
    (arith, nat_tests) in
    step ∙ ap (before_first_piece x) rest

-- bytes without an LF are one piece, if there are any
pub pieces-last : (x : ℕ) (piece : List ℕ) → HasNoLf (x ∷ piece) → pieces_of (x ∷ piece) ≡ (x ∷ piece) ∷ []
pieces-last x [] h = let ne : x ≢ 10 = no_lf_first x [] h in grind (arith, nat_tests)
pieces-last x (y ∷ piece) h =
    let ne : x ≢ 10 = no_lf_first x (y ∷ piece) h in
    let rest = pieces-last y piece (no_lf_rest x (y ∷ piece) h) in
    let step : pieces_of (x ∷ y ∷ piece) ≡ before_first_piece x (pieces_of (y ∷ piece)) = grind (arith, nat_tests) in
    step ∙ ap (before_first_piece x) rest

-- a piece loses at most one byte with its CR
pub length-without_cr : (piece : List ℕ) → length piece ≤ length (without_cr piece) + 1
length-without_cr piece = grind (arith, common_steps)
