-- What places show, one by one.
use Rattle.std.proofs.Common.{◌≡◌, ◌<◌, ◌+◌, ◌-◌, ℕ, suc, List, ◌++◌, flat_map, sym, ap, ◌∙◌, arith}
use Rattle.std.proofs.Math.Bool.{or_assoc}
use Rattle.std.specs.List.{list_any, list_all, range_with_len}
use Rattle.std.proofs.lemmas.List.Folds.{list_any-append}
use Rattle.ht_pairs.specs.Pairs.{Pair, differs}
use Rattle.ht_recompute.specs.declared.differences.Differences.{Differences}
use Rattle.ht_recompute.specs.Differences.{differences_in, in_either}

-- what two lists of sets show together is what the joined list shows
pub differences_append : (xs ys : List (List Pair)) → in_either (differences_in xs) (differences_in ys)
    ≡ differences_in (xs ++ ys)
differences_append xs ys =
    let must = sym (list_any-append (list_all differs) xs ys) in
    let may = sym (list_any-append (list_any differs) xs ys) in
    (λ i. record { must = must i; may = may i })

in_either_assoc : (a b c : Differences) → in_either (in_either a b) c ≡ in_either a (in_either b c)
in_either_assoc a b c =
    let must = or_assoc a.must b.must c.must in
    let may = or_assoc a.may b.may c.may in
    (λ i. record { must = must i; may = may i })

-- one more frame, whose outputs hold these sets
pub one_more_frame : (out : ℕ → List (List Pair)) (shown here : Differences) (f frames : ℕ) → f < frames
    → here ≡ differences_in (out f)
    → in_either (in_either shown here) (differences_in (flat_map out (range_with_len (f + 1) (frames - (f + 1)))))
    ≡ in_either shown (differences_in (flat_map out (range_with_len f (frames - f))))
one_more_frame out shown here f frames inside is =
    let rest = flat_map out (range_with_len (f + 1) (frames - (f + 1))) in
    let left : suc (frames - (f + 1)) ≡ frames - f = omega arith in
    in_either_assoc shown here (differences_in rest)
    ∙ ap (in_either shown) (ap (λ (d : Differences). in_either d (differences_in rest)) is
    ∙ (differences_append (out f) rest
    ∙ ap (λ (n : ℕ). differences_in (flat_map out (range_with_len f n))) left))
