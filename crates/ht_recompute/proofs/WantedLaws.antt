-- What the latches of a cube show, one by one.
use Rattle.std.proofs.Common.{◌≡◌, ◌↔◌, ◌<◌, List, [], ◌∷◌, ◌++◌, Bool, true, false, not, ◌&&◌, cond, IsTrue, length, refl, sym, ◌∙◌, ap, inl, inr, arith}
use Rattle.std.proofs.Math.Bool.{and_assoc, and-true, or_assoc}
use Rattle.std.proofs.lemmas.Bool.{false_from_ne_true}
use Rattle.std.proofs.lemmas.Bool.Decides.{leb_tells}
use Rattle.std.proofs.lemmas.List.Folds.{list_any-append, list_all-append}
use Rattle.ht_tern.specs.declared.tern.Tern.{Tern}
use Rattle.ht_pairs.specs.Pairs.{Pair, pair, IsMember, is_member}
use Rattle.ht_pairs.proofs.SetLaws.{agree, is_member-true, is_member-from}
use Rattle.ht_tree.specs.Window.Windows.{is_undetermined}
use Rattle.ht_tree.specs.Window.WindowStatus.{is_definite}
use Rattle.ht_recompute.specs.declared.cube.Matches.{Matches}
use Rattle.ht_recompute.specs.WantedLatches.{WantedLatch, wanted_in, matches_in, in_both, is_any, may_be, must_be}

-- a set with one member is determined
pub single_determined : (s : List Pair) (single : Bool) → IsTrue single ↔ (length s ≡ 1) → 0 < length s
    → single ≡ not (is_undetermined s)
single_determined s single tells some = elim (leb_tells 2 (length s)) [
  | inl many ↦ false_from_ne_true single (λ e. let one = tells.0 e in let l = many.1 in absurd (omega (arith, one, l)))
      ∙ sym (ap not many.0)
  | inr few ↦ tells.1 (let l = few.1 in omega (arith, l, some)) ∙ sym (ap not few.0)
]

-- a latch that is wanted at a value
pub one_wanted : (v : Tern) (s : List Pair) (may single must : Bool) → must ≡ (may && single)
    → IsTrue may ↔ IsMember (pair v v) s → IsTrue single ↔ (length s ≡ 1) → 0 < length s
    → record { some = true; must = must; may = may } ≡ matches_in (record { value = v; set = s } ∷ [])
one_wanted v s may single must is has one some =
    let m : may ≡ is_member (pair v v) s =
    agree may (is_member (pair v v) s) (λ e. is_member-from (pair v v) s (has.0 e))
    (λ e. has.1 (is_member-true (pair v v) s e)) in
    let k = single_determined s single one some in
    let both : must ≡ (is_member (pair v v) s && not (is_undetermined s)) = is ∙ (λ i. m i && k i) in
    let may_is = m ∙ sym (and-true (is_member (pair v v) s)) in
    let must_is = both ∙ sym (and-true (is_member (pair v v) s && not (is_undetermined s))) in
    (λ i. record { some = true; must = must_is i; may = may_is i })

wanted_by : (b : Bool) (x : WantedLatch) (xs : List WantedLatch) → cond b (x ∷ xs) xs ≡ cond b (x ∷ []) [] ++ xs
wanted_by true x xs = refl
wanted_by false x xs = refl

met_append : (xs ys : List WantedLatch) → in_both (matches_in xs) (matches_in ys) ≡ matches_in (xs ++ ys)
met_append xs ys =
    let some = sym (list_any-append is_any xs ys) in
    let must = sym (list_all-append must_be xs ys) in
    let may = sym (list_all-append may_be xs ys) in
    (λ i. record { some = some i; must = must i; may = may i })

in_both_assoc : (a b c : Matches) → in_both (in_both a b) c ≡ in_both a (in_both b c)
in_both_assoc a b c =
    let some = or_assoc a.some b.some c.some in
    let must = and_assoc a.must b.must c.must in
    let may = and_assoc a.may b.may c.may in
    (λ i. record { some = some i; must = must i; may = may i })

-- one more latch of a cube
pub met_more : (met : Matches) (v : Tern) (cube : List Tern) (s : List Pair) (sets : List (List Pair))
    → in_both (in_both met (matches_in (wanted_in (v ∷ []) (s ∷ [])))) (matches_in (wanted_in cube sets))
    ≡ in_both met (matches_in (wanted_in (v ∷ cube) (s ∷ sets)))
met_more met v cube s sets =
    let x : WantedLatch = record { value = v; set = s } in
    in_both_assoc met (matches_in (wanted_in (v ∷ []) (s ∷ []))) (matches_in (wanted_in cube sets))
    ∙ ap (in_both met) (met_append (wanted_in (v ∷ []) (s ∷ [])) (wanted_in cube sets)
    ∙ ap matches_in (sym (wanted_by (is_definite v) x (wanted_in cube sets))))
