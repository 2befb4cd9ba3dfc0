-- The latches of a cube, one by one.
use Rattle.std.proofs.Common.{◌≡◌, ◌+◌, ◌∙◌, ◌↔◌, ℕ, suc, List, [], ◌∷◌, ◌++◌, Bool, true, false, ◌&&◌, cond, length, refl, ap, sym, inl, inr, arith, IsTrue}
use Rattle.std.specs.Prelude.{ltb}
use Rattle.std.specs.List.{filter, list_all, range_with_len}
use Rattle.std.proofs.lemmas.List.{append-nil}
use Rattle.std.proofs.lemmas.List.Folds.{list_all-append}
use Rattle.std.proofs.lemmas.Bool.Decides.{leb_tells}
use Rattle.ht_tern.specs.declared.tern.Tern.{Tern}
use Rattle.ht_pairs.specs.Pairs.{Pair, IsMember, is_member}
use Rattle.ht_pairs.proofs.SetLaws.{agree, is_member-true, is_member-from}
use Rattle.ht_tree.specs.declared.token.Assign3.{Assign3}
use Rattle.ht_tree.specs.declared.window.Spot.TheVariants.{State}
use Rattle.ht_tree.specs.Window.Windows.{SearchWindow, is_undetermined}
use Rattle.ht_tree.specs.Window.Places.{set_at}
use Rattle.ht_tree.specs.Window.WindowStatus.{is_definite, value_at, must_meet, may_meet}
use Rattle.ht_window.specs.declared.cube.CubeSeen.{CubeSeen}
use Rattle.ht_window.specs.Seen.{cube_seen_of, cube_seen_with}
use Rattle.ht_window.proofs.SeenLaws.{find_push, filter_push}

-- a bit that says whether a pair is in a set is `is_member` of them
pub member_is : (p : Pair) (s : List Pair) (b : Bool) → IsTrue b ↔ IsMember p s → b ≡ is_member p s
member_is p s b h = agree b (is_member p s) (λ e. is_member-from p s (h.0 e)) (λ e. h.1 (is_member-true p s e))

-- one more latch
all_push : (test : ℕ → Bool) (latches : List ℕ) (j : ℕ) → list_all test (latches ++ j ∷ [])
    ≡ (list_all test latches && test j)
all_push test latches j = list_all-append test latches (j ∷ []) ∙ ap (λ (b : Bool). list_all test latches && b)
    (by (test j))
  where
    by : (b : Bool) → (b && true) ≡ b
    by true = refl
    by false = refl

some_push : (latches : List ℕ) (j : ℕ) → ltb 0 (length (latches ++ j ∷ [])) ≡ true
some_push [] j = refl
some_push (k ∷ latches) j = elim (leb_tells 1 (suc (length (latches ++ j ∷ []))))
    [ inl p ↦ p.0 | inr p ↦ let l = p.1 in absurd (omega (arith, l)) ]

module _ (w : SearchWindow) (path : List Assign3) (cube : List Tern) where
  -- what the latches of a cube show, with one more latch, is what the longer list shows
  pub cube_push : (latches : List ℕ) (j : ℕ) (value : Tern) (set : List Pair) (s : CubeSeen) → s
      ≡ cube_seen_of w path cube latches → value ≡ value_at cube j → set ≡ set_at w path 0 (State j)
      → cube_seen_with s j value set ≡ cube_seen_of w path cube (latches ++ j ∷ [])
  cube_push latches j value set s is wanted here =
      let some = sym (some_push latches j) in
      let must = sym (all_push (must_meet w path cube) latches j) in
      let may = sym (all_push (may_meet w path cube) latches j) in
      let undetermined = sym (find_push (λ j. is_undetermined (set_at w path 0 (State j))) latches j) in
      (λ k. cube_seen_with (is k) j (wanted k) (here k)) ∙
      (λ k. record { some = some k; must = must k; may = may k; undetermined_latch = undetermined k })

  -- a next flip-flop of which the cube wants 0 or 1 adds to what the cube's latches show
  pub latch_kept : (n : ℕ) (value : Tern) (set : List Pair) (s : CubeSeen) → s
      ≡ cube_seen_of w path cube (filter (λ j. is_definite (value_at cube j)) (range_with_len 0 n))
      → value ≡ value_at cube n → is_definite value ≡ true → set ≡ set_at w path 0 (State n)
      → cube_seen_with s n value set
      ≡ cube_seen_of w path cube (filter (λ j. is_definite (value_at cube j)) (range_with_len 0 (n + 1)))
  latch_kept n value set s is wanted kept here =
      let test : ℕ → Bool = λ j. is_definite (value_at cube j) in
      let yes_here : test n ≡ true = ap is_definite (sym wanted) ∙ kept in
      let more : filter test (range_with_len 0 (n + 1)) ≡ filter test (range_with_len 0 n) ++ n ∷ [] =
      filter_push test n ∙ ap (λ (b : Bool). filter test (range_with_len 0 n) ++ cond b (n ∷ []) []) yes_here in
      cube_push (filter test (range_with_len 0 n)) n value set s is wanted here ∙ ap (cube_seen_of w path cube)
      (sym more)

  -- a next flip-flop of which the cube wants nothing leaves what the cube's latches show
  pub latch_passed : (n : ℕ) (value : Tern) (s : CubeSeen) → s
      ≡ cube_seen_of w path cube (filter (λ j. is_definite (value_at cube j)) (range_with_len 0 n))
      → value ≡ value_at cube n → is_definite value ≡ false → s
      ≡ cube_seen_of w path cube (filter (λ j. is_definite (value_at cube j)) (range_with_len 0 (n + 1)))
  latch_passed n value s is wanted passed =
      let test : ℕ → Bool = λ j. is_definite (value_at cube j) in
      let no_here : test n ≡ false = ap is_definite (sym wanted) ∙ passed in
      let more : filter test (range_with_len 0 (n + 1)) ≡ filter test (range_with_len 0 n) =
      filter_push test n ∙ (ap (λ (b : Bool). filter test (range_with_len 0 n) ++ cond b (n ∷ []) []) no_here
      ∙ append-nil (filter test (range_with_len 0 n))) in
      is ∙ ap (cube_seen_of w path cube) (sym more)
