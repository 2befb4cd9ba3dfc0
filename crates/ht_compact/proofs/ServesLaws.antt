-- Whether a list serves: the tests by which compaction is defined say what the facts say.
use Rattle.std.proofs.Common.{◌≡◌, ◌<◌, ◌+◌, ◌∷◌, [], ℕ, zero, suc, List, Bool, true, false, cond, length, get_or, Some, None, refl, sym, ◌∙◌, ap, subst, arith}
use Rattle.std.specs.Prelude.{◌&&◌}
use Rattle.std.specs.List.{All, Contains, filter, list_all, list_any, range_with_len}
use Rattle.std.proofs.Math.Path.{fun_ext}
use Rattle.std.proofs.lemmas.List.Elements.{All-contains, All-filter, Contains-append_right, Contains-get_or, filter_passes}
use Rattle.std.proofs.lemmas.List.Folds.{list_any_at, Any-from_list_any}
use Rattle.std.proofs.lemmas.List.Sums.{AllPass-from_list_all, list_all-from_AllPass}
use Rattle.std.proofs.lemmas.List.FromFn.{get_or-range_with_len, length-range_with_len}
use Rattle.ht_tern.specs.Opposite.{are_opposite}
use Rattle.ht_tern.proofs.OppositeLaws.{opposite_tested}
use Rattle.ht_net.specs.Circuit.Netlist.{Netlist}
use Rattle.ht_net.specs.Detect.Detection.{output_at, unknown_state}
use Rattle.ht_serial.proofs.ContradictionLaws.{opposite_within}
use Rattle.ht_faults.specs.Sites.{faults_of}
use Rattle.ht_faults.specs.Classes.{fault_at, is_representative}
use Rattle.ht_compact.specs.Kept.{without_run}
use Rattle.ht_compact.specs.Rounds.{rounds_of}
use Rattle.ht_compact.specs.Compacts.{AreDetectedClasses, CompactsRuns, DetectsEach, IsDetectedBy, IsDetectedClass, MissesOne, compaction_of, detected_classes_of, is_detected_by, serves}
use Rattle.ht_compact.proofs.RoundLaws.{rounds_tried}

-- ---- lists

-- a test that passes at some number below n
any_below : (p : ℕ → Bool) (n k : ℕ) → k < n → p k ≡ true → list_any p (range_with_len 0 n) ≡ true
any_below p n k less is =
    let at : get_or (range_with_len 0 n) k 0 ≡ k = omega (arith, get_or-range_with_len 0 n k 0 less) in
    list_any_at p (range_with_len 0 n) k 0 (omega (arith, less, length-range_with_len 0 n)) (ap p at ∙ is)

-- an item stays one where another comes before it
contains_more : {A : Type 0} → (y x : A) (xs : List A) → Contains xs x → Contains (y ∷ xs) x
contains_more y x xs has = Contains-append_right (y ∷ []) xs x has

-- the first item is one
contains_first : {A : Type 0} → (y : A) (xs : List A) → Contains (y ∷ xs) y
contains_first y xs = Contains-get_or (y ∷ xs) 0 y (omega arith)

-- what passes a test is among those that do
filtered_has : {A : Type 0} → (p : A → Bool) (xs : List A) (x : A) (k : ℕ) → p x ≡ true → k < length xs
    → get_or xs k x ≡ x → Contains (filter p xs) x
filtered_has p [] x k is inside at = absurd (omega (arith, inside))
filtered_has p (y ∷ xs) x zero is inside at =
    subst (λ b. Contains (cond b (y ∷ filter p xs) (filter p xs)) x) (sym (ap p at ∙ is))
    (subst (Contains (y ∷ filter p xs)) at (contains_first y (filter p xs)))
filtered_has p (y ∷ xs) x (suc k) is inside at =
    let rest = filtered_has p xs x k is (omega (arith, inside)) at in
    elim (p y) as (λ b. Contains (cond b (y ∷ filter p xs) (filter p xs)) x) [
      | true ↦ contains_more y x (filter p xs) rest
      | false ↦ rest
    ]

-- both of two tests pass
both : (a b : Bool) → (a && b) ≡ true → (a ≡ true) × (b ≡ true)
both true b h = (refl, h)
both false b h = cc

-- one item that doesn't pass
record SomeFails {A : Type 0} (p : A → Bool) (xs : List A) : Type 0 where
  pub item : A
  pub has : Contains xs item
  pub fails : p item ≡ false

some_fails : {A : Type 0} → (p : A → Bool) (xs : List A) → list_all p xs ≡ false → SomeFails p xs
some_fails p [] is = cc
some_fails p (x ∷ xs) is =
    let cases : (b : Bool) → p x ≡ b → (b && list_all p xs) ≡ false → SomeFails p (x ∷ xs) =
    λ b. elim b as (λ (v : Bool). p x ≡ v → (v && list_all p xs) ≡ false → SomeFails p (x ∷ xs)) [
      | true ↦ λ here is.
          let rest = some_fails p xs is in
          record { item = rest.item; has = contains_more x rest.item xs rest.has; fails = rest.fails }
      | false ↦ λ here is. record { item = x; has = contains_first x xs; fails = here }
    ] in
    cases (p x) refl is

-- ---- one fault

-- what a list detects passes the test
pub detected_passes : (c : Netlist) (list : List (List Bool)) (i : ℕ) → IsDetectedBy c list i
    → is_detected_by c list i ≡ true
unfolding is_detected_by
detected_passes c list i is =
    let good : ℕ → ℕ → Bool = λ t o.
    are_opposite (output_at c None list t o) (output_at c (Some (fault_at c i)) list t o) in
    let inside = opposite_within (output_at c None list is.vector is.output) c (Some (fault_at c i)) (unknown_state c)
    list is.vector is.output is.detects in
    any_below (λ t. list_any (good t) (range_with_len 0 (length c.outputs))) (length list) is.vector inside.0
    (any_below (good is.vector) (length c.outputs) is.output inside.1
    ((opposite_tested (output_at c None list is.vector is.output)
    (output_at c (Some (fault_at c i)) list is.vector is.output)).1 is.detects))

-- and what passes it is detected
pub passes_detected : (c : Netlist) (list : List (List Bool)) (i : ℕ) → is_detected_by c list i ≡ true
    → IsDetectedBy c list i
unfolding is_detected_by
passes_detected c list i is =
    let good : ℕ → ℕ → Bool = λ t o.
    are_opposite (output_at c None list t o) (output_at c (Some (fault_at c i)) list t o) in
    let outputs = range_with_len 0 (length c.outputs) in
    let row = Any-from_list_any (λ (t : ℕ). list_any (good t) outputs) (range_with_len 0 (length list)) is in
    let place = Any-from_list_any (good row.1) outputs row.4 in
    record {
      vector = row.1;
      output = place.1;
      detects =
          (opposite_tested (output_at c None list row.1 place.1)
          (output_at c (Some (fault_at c i)) list row.1 place.1)).0 place.4;
    }

-- ---- all wanted ones

-- a list that detects each serves
pub each_serves : (c : Netlist) (wanted : List ℕ) (list : List (List Bool)) → DetectsEach c wanted list
    → serves c wanted list ≡ true
unfolding serves
each_serves c wanted list each =
    list_all-from_AllPass (is_detected_by c list) wanted
    (λ k d inside. detected_passes c list (get_or wanted k d) (each k d inside))

-- and one that serves detects each
pub serves_each : (c : Netlist) (wanted : List ℕ) (list : List (List Bool)) → serves c wanted list ≡ true
    → DetectsEach c wanted list
unfolding serves
serves_each c wanted list is = λ k d inside.
    passes_detected c list (get_or wanted k d) (AllPass-from_list_all (is_detected_by c list) wanted is k d inside)

-- one that misses a fault doesn't serve
pub misses_fails : (c : Netlist) (wanted : List ℕ) (list : List (List Bool)) → MissesOne c wanted list
    → serves c wanted list ≡ false
misses_fails c wanted list misses =
    let cases : (b : Bool) → serves c wanted list ≡ b → b ≡ false =
    λ b. elim b as (λ (v : Bool). serves c wanted list ≡ v → v ≡ false) [
      | true ↦ λ is.
          absurd (misses.undetected (All-contains (IsDetectedBy c list) wanted misses.missed
          (serves_each c wanted list is) misses.is_wanted))
      | false ↦ λ is. refl
    ] in
    cases (serves c wanted list) refl

-- and one that doesn't serve misses a fault
pub fails_misses : (c : Netlist) (wanted : List ℕ) (list : List (List Bool)) → serves c wanted list ≡ false
    → MissesOne c wanted list
unfolding serves
fails_misses c wanted list is =
    let one = some_fails (is_detected_by c list) wanted is in
    record {
      missed = one.item;
      is_wanted = one.has;
      undetected = λ found. let test = detected_passes c list one.item found in let fails = one.fails in cc;
    }

-- ---- the classes that are wanted

-- the ones of the definition are those that the list detects
pub classes_are_detected : (c : Netlist) (representatives : List ℕ) (list : List (List Bool))
    → AreDetectedClasses c representatives list (detected_classes_of c representatives list)
unfolding detected_classes_of
classes_are_detected c representatives list =
    let n = length (faults_of c) in
    let all = range_with_len 0 n in
    let test : ℕ → Bool = λ i. is_representative representatives i && is_detected_by c list i in
    let below : All (λ i. i < n) all =
    λ k d inside. omega (
      arith,
      inside,
      length-range_with_len 0 n,
      get_or-range_with_len 0 n k d (omega (arith, inside, length-range_with_len 0 n)),
    ) in
    record {
      sound = λ k d inside.
          let i : ℕ = get_or (filter test all) k d in
          let passes = both (is_representative representatives i) (is_detected_by c list i)
          (filter_passes test all k d inside) in
          record {
            fault = All-filter test (λ j. j < n) all below k d inside;
            representative = passes.0;
            detected = passes_detected c list i passes.1;
          };
      complete = λ i is.
          let at : get_or all i i ≡ i = omega (arith, get_or-range_with_len 0 n i i is.fault) in
          filtered_has test all i i
          (ap (λ b. b && is_detected_by c list i) is.representative ∙ detected_passes c list i is.detected)
          (omega (arith, is.fault, length-range_with_len 0 n)) at;
    }

-- the same classes in another list
never : (c : Netlist) (representatives : List ℕ) (list other : List (List Bool)) (wanted more : List ℕ)
    → AreDetectedClasses c representatives list wanted → AreDetectedClasses c representatives list more
    → serves c wanted other ≡ true → serves c more other ≡ false → ⊥
never c representatives list other wanted more are too is fails =
    let misses = fails_misses c more other fails in
    misses.undetected (All-contains (IsDetectedBy c other) wanted misses.missed (serves_each c wanted other is)
    (are.complete misses.missed (All-contains (IsDetectedClass c representatives list) more misses.missed too.sound
    misses.is_wanted)))

same_test : (a b : Bool) → (a ≡ true → b ≡ false → ⊥) → (b ≡ true → a ≡ false → ⊥) → a ≡ b
same_test true true f g = refl
same_test true false f g = absurd (f refl refl)
same_test false true f g = absurd (g refl refl)
same_test false false f g = refl

-- a list serves for them alike
pub serves_alike : (c : Netlist) (representatives : List ℕ) (list : List (List Bool)) (wanted more : List ℕ)
    → AreDetectedClasses c representatives list wanted → AreDetectedClasses c representatives list more
    → serves c wanted ≡ serves c more
serves_alike c representatives list wanted more are too =
    fun_ext (λ (other : List (List Bool)). same_test (serves c wanted other) (serves c more other)
    (never c representatives list other wanted more are too)
    (never c representatives list other more wanted too are))

-- ---- what is kept

-- the rounds for the detected classes make the compaction of the list
pub kept_is : (c : Netlist) (representatives : List ℕ) (most : ℕ) (list kept : List (List Bool)) (wanted : List ℕ)
    → AreDetectedClasses c representatives list wanted → rounds_of (serves c wanted) most list ≡ kept
    → kept ≡ compaction_of c representatives most list
kept_is c representatives most list kept wanted are is =
    sym is ∙ ap (λ (passes : List (List Bool) → Bool). rounds_of passes most list)
    (serves_alike c representatives list wanted (detected_classes_of c representatives list) are
    (classes_are_detected c representatives list))

-- and that is one: the last round has tried each run of it
pub compaction_compacts : (c : Netlist) (representatives : List ℕ) (most : ℕ) (list : List (List Bool))
    → CompactsRuns c representatives most list (compaction_of c representatives most list)
compaction_compacts c representatives most list =
    let wanted = detected_classes_of c representatives list in
    let are = classes_are_detected c representatives list in
    let kept = compaction_of c representatives most list in
    let tried = rounds_tried (serves c wanted) most (length list) list
    (each_serves c wanted list (λ k d inside. (are.sound k d inside).detected)) (omega arith) in
    record {
      in_order = tried.in_order;
      detected = λ i is.
          All-contains (IsDetectedBy c kept) wanted i (serves_each c wanted kept tried.passes_too) (are.complete i is);
      needed = λ t n some few inside.
          let misses = fails_misses c wanted (without_run kept t (t + n)) (tried.tried t n some few inside) in
          record {
            lost = misses.missed;
            detected =
                All-contains (IsDetectedClass c representatives list) wanted misses.missed are.sound misses.is_wanted;
            undetected = misses.undetected;
          };
    }
