-- The latches of a cube, one by one, and the status of a window that looks for it.
use Rattle.std.proofs.Common.{◌≡◌, ◌<◌, ◌+◌, ℕ, suc, zero, List, [], ◌∷◌, Bool, true, false, not, ◌&&◌, cond, length, get_or, refl, sym, ◌∙◌, ap, arith}
use Rattle.std.specs.Prelude.{eqb}
use Rattle.std.proofs.lemmas.Bool.Decides.{nat_tests}
use Rattle.std.specs.List.{filter, list_all, range_with_len}
use Rattle.ht_tern.specs.declared.tern.Tern.{Tern}
use Rattle.ht_tern.specs.declared.tern.Tern.TheVariants.{Unk}
use Rattle.ht_tern.specs.Gate.{AllRelated}
use Rattle.ht_pairs.specs.Pairs.{Pair, pair, is_member}
use Rattle.ht_net.specs.Frames.Frame.{data_values}
use Rattle.ht_net.specs.Circuit.Netlist.{no_net}
use Rattle.ht_net.proofs.ValueLaws.{taken_get}
use Rattle.ht_tree.specs.declared.token.Assign3.{Assign3}
use Rattle.ht_tree.specs.declared.token.Status3.TheVariants as status3
use Rattle.ht_tree.specs.declared.window.Spot.TheVariants.{State, Cube}
use Rattle.ht_tree.specs.declared.window.Status.TheVariants.{Dead, Sure, Open}
use Rattle.ht_tree.specs.Window.Windows.{SearchWindow, pair_set_rules, cell_at, is_undetermined}
use Rattle.ht_tree.specs.Window.Places.{set_at}
use Rattle.ht_tree.specs.Window.WindowStatus.{is_definite, value_at, cube_latches, may_meet, must_meet, cube_status, without_place}
use Rattle.ht_recompute.specs.WantedLatches.{WantedLatch, wanted_in, matches_in, may_be, must_be, status_by_matches}

-- a latch by number, and what is wanted of it
pub record IsWantedAt (value : ℕ → Tern) (set : ℕ → List Pair) (j : ℕ) (x : WantedLatch) : Type 0 where
  pub value_is : x.value ≡ value j
  pub set_is : x.set ≡ set j

module _ (value : ℕ → Tern) (set : ℕ → List Pair) where
  head : (b d : Bool) (j : ℕ) (js : List ℕ) (x : WantedLatch) (xs : List WantedLatch) → b ≡ d
      → IsWantedAt value set j x → AllRelated (IsWantedAt value set) js xs
      → AllRelated (IsWantedAt value set) (cond b (j ∷ js) js) (cond d (x ∷ xs) xs)
  head true true j js x xs e h rest = (h, rest)
  head true false j js x xs e h rest = cc
  head false true j js x xs e h rest = cc
  head false false j js x xs e h rest = rest

  -- the latches that a cube wants, by number
  pub wanted_by_number : (i : ℕ) (cube : List Tern) (sets : List (List Pair)) → length sets ≡ length cube
      → ((k : ℕ) → k < length cube → get_or cube k Unk ≡ value (i + k))
      → ((k : ℕ) → k < length cube → get_or sets k [] ≡ set (i + k))
      → AllRelated (IsWantedAt value set) (filter (λ j. is_definite (value j)) (range_with_len i (length cube)))
      (wanted_in cube sets)
  wanted_by_number i [] sets e v s = tt
  wanted_by_number i (x ∷ cube) [] e v s = absurd (omega arith)
  wanted_by_number i (x ∷ cube) (y ∷ sets) e v s =
      let at : i + 0 ≡ i = omega arith in
      let here = v 0 (omega arith) ∙ ap value at in
      let there = s 0 (omega arith) ∙ ap set at in
      let next : (k : ℕ) → i + suc k ≡ i + 1 + k = λ k. omega arith in
      let rest = wanted_by_number (i + 1) cube sets (omega arith)
      (λ k l. v (suc k) (omega (arith, l)) ∙ ap value (next k)) (λ k l. s (suc k) (omega (arith, l)) ∙ ap set (next k))
      in
      head (is_definite (value i)) (is_definite x) i _ (record { value = x; set = y }) _ (ap is_definite (sym here))
      (record { value_is = here; set_is = there }) rest

-- tests that agree on related items agree on whether all of related lists pass
pub all_related : {R : ℕ → WantedLatch → Type 0} → (F : ℕ → Bool) (T : WantedLatch → Bool) (js : List ℕ)
    (xs : List WantedLatch) → ((j : ℕ) (x : WantedLatch) → R j x → F j ≡ T x) → AllRelated R js xs
    → list_all F js ≡ list_all T xs
all_related F T [] [] same h = refl
all_related F T [] (x ∷ xs) same h = absurd h
all_related F T (j ∷ js) [] same h = absurd h
all_related F T (j ∷ js) (x ∷ xs) same h =
    (λ i. same j x h.0 i && all_related F T js xs same h.1 i)

by_tests : (must may must' may' : Bool) → must ≡ must' → may ≡ may'
    → without_place (cond must (Sure 0 Cube) (cond may Open Dead))
    ≡ cond must' status3.Sure (cond may' status3.Open status3.Dead)
by_tests true may true may' e f = refl
by_tests true may false may' e f = cc
by_tests false may true may' e f = cc
by_tests false true false true e f = refl
by_tests false true false false e f = cc
by_tests false false false true e f = cc
by_tests false false false false e f = refl

some_left : (limit : ℕ) → eqb (suc limit) 0 ≡ false
some_left limit = grind (arith, nat_tests)

module _ (w : SearchWindow) (path : List Assign3) (cube : List Tern) where
  abbrev at : ℕ → WantedLatch → Type 0
  at = IsWantedAt (value_at cube) (λ j. set_at w path 0 (State j))

  may_same : (j : ℕ) (x : WantedLatch) → at j x → may_meet w path cube j ≡ may_be x
  may_same j x h = (λ i. is_member (pair (sym h.value_is i) (sym h.value_is i)) (sym h.set_is i))

  must_same : (j : ℕ) (x : WantedLatch) → at j x → must_meet w path cube j ≡ must_be x
  must_same j x h = (λ i. may_same j x h i && not (is_undetermined (sym h.set_is i)))

  status_by_latches : (limit : ℕ) (js : List ℕ) (xs : List WantedLatch) → AllRelated at js xs
      → status_by_matches (matches_in xs) limit ≡ without_place (cube_status w path cube limit js)
  status_by_latches limit [] [] h = refl
  status_by_latches limit [] (x ∷ xs) h = absurd h
  status_by_latches limit (j ∷ js) [] h = absurd h
  status_by_latches zero (j ∷ js) (x ∷ xs) h = refl
  status_by_latches (suc limit) (j ∷ js) (x ∷ xs) h =
      ap (λ (b : Bool). cond b status3.Dead (cond (list_all must_be (x ∷ xs)) status3.Sure
      (cond (list_all may_be (x ∷ xs)) status3.Open status3.Dead))) (some_left limit)
      ∙ sym (by_tests (list_all (must_meet w path cube) (j ∷ js)) (list_all (may_meet w path cube) (j ∷ js))
      (list_all must_be (x ∷ xs)) (list_all may_be (x ∷ xs))
      (all_related (must_meet w path cube) must_be (j ∷ js) (x ∷ xs) must_same h)
      (all_related (may_meet w path cube) may_be (j ∷ js) (x ∷ xs) may_same h))

  -- the status by what the next states make of the cube
  pub cube_status_is : (limit : ℕ) (sets : List (List Pair)) → length cube ≡ length w.circuit.dffs
      → length sets ≡ length w.circuit.dffs
      → sets ≡ data_values (pair_set_rules w.fault) (cell_at w path 0) 0 w.circuit.dffs
      → status_by_matches (matches_in (wanted_in cube sets)) limit
      ≡ without_place (cube_status w path cube limit (cube_latches w.circuit cube))
  cube_status_is limit sets long count is =
      let r = pair_set_rules w.fault in
      let value : (k : ℕ) → k < length cube → get_or cube k Unk ≡ value_at cube (0 + k) =
      λ k l. let at : k ≡ 0 + k = omega arith in ap (value_at cube) at in
      let set : (k : ℕ) → k < length cube → get_or sets k [] ≡ set_at w path 0 (State (0 + k)) =
      λ k l. let at : k ≡ 0 + k = omega arith in
      ap (λ (t : List (List Pair)). get_or t k []) is
      ∙ (taken_get r (cell_at w path 0) 0 w.circuit.dffs k [] (omega (arith, l, long))
      ∙ (λ i. r.data_pin (0 + k) (cell_at w path 0 (get_or w.circuit.dffs (at i) no_net).0))) in
      let each = wanted_by_number (value_at cube) (λ j. set_at w path 0 (State j)) 0 cube sets
      (omega (arith, long, count)) value set in
      status_by_latches limit _ (wanted_in cube sets) each
      ∙ ap (λ (n : ℕ). without_place (cube_status w path cube limit
      (filter (λ j. is_definite (value_at cube j)) (range_with_len 0 n)))) long
