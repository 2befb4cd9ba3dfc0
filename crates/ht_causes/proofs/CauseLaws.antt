-- The laws of causes.
use Rattle.std.proofs.Common.{◌≡◌, ◌<◌, ◌≤◌, ◌+◌, ◌-◌, ◌∙◌, ◌++◌, inl, inr, ℕ, List, [], Bool, true, false, Option, Some, None, map, length, get_or, take, refl, sym, ap, arith, length-append}
use Rattle.std.specs.Prelude.{◌↔◌, is_some}
use Rattle.ht_tern.specs.declared.tern.Tern.{Tern}
use Rattle.ht_tern.specs.declared.tern.Tern.TheVariants.{Zero, One, Unk}
use Rattle.ht_tern.specs.Gate.{Refines, tern_of}
use Rattle.ht_tern.specs.Opposite.{Opposite, are_opposite}
use Rattle.ht_net.specs.declared.fault.Fault.{Fault}
use Rattle.ht_net.specs.declared.place.Place.{Place}
use Rattle.ht_net.specs.Circuit.Netlist.{Netlist, IsCircuit}
use Rattle.ht_net.specs.Detect.Detection.{IsFirstFrom, output_from, outputs_from, terns_of}
use Rattle.ht_faults.specs.Classes.{SameClass}
use Rattle.ht_faults.proofs.RunLaws.{tern_members_alike}
use Rattle.ht_serial.proofs.ContradictionLaws.{opposite_within}
use Rattle.ht_causes.specs.declared.cause.LatchPlace.{LatchPlace}
use Rattle.ht_causes.specs.Firsts.{least_below}
use Rattle.ht_causes.specs.Compared.{are_unlike, are_unsure, carried_from, detects_at, excites_at, first_detected, first_excited, first_possible, first_stored, is_ever_told, is_told, latch_from, latch_place, may_detect_at, output_place, stores_at, tells_at}
use Rattle.ht_causes.specs.Causes.{IsSameOrAbove, ShowsNothing, TellsAllGoodTells, cause_of, cause_row, table_row}
use Rattle.ht_causes.proofs.LeastLaws.{cases_option, least_longer, least_none, least_same, least_some, none_place, place_longer, place_none, place_same, place_some}
use Rattle.ht_causes.proofs.RunToldLaws.{latch_longer, latch_told, net_longer, net_told, output_longer, output_told}

-- ---- two values

-- where the faulty value tells all that the good one tells, no difference is seen
unopposed : (f g : Tern) → Refines f g → are_opposite g f ≡ false
unopposed f Unk h = refl
unopposed f Zero (inl h) = cc
unopposed f Zero (inr h) = rw h refl
unopposed f One (inl h) = cc
unopposed f One (inr h) = rw h refl

unlike_none : (f g : Tern) → Refines f g → are_unlike g f ≡ false
unlike_none f Unk h = refl
unlike_none f Zero (inl h) = cc
unlike_none f Zero (inr h) = rw h refl
unlike_none f One (inl h) = cc
unlike_none f One (inr h) = rw h refl

unsure_none : (f g : Tern) → Refines f g → are_unsure g f ≡ false
unsure_none f Unk h = refl
unsure_none f Zero (inl h) = cc
unsure_none f Zero (inr h) = rw h refl
unsure_none f One (inl h) = cc
unsure_none f One (inr h) = rw h refl

-- ---- a fault that isn't excited

module _ (c : Netlist) (circuit : IsCircuit c) (fault : Fault) (start : List Tern) (list : List (List Bool)) where
  calm_at : (t : ℕ) → first_excited c fault start list (length list) ≡ None → t < length list
      → (s : ℕ) → s < t + 1 → excites_at c fault start list s ≡ false
  calm_at t none inside s less = least_none (excites_at c fault start list) (length list) none s (omega arith)

  pub tells_all : first_excited c fault start list (length list) ≡ None → TellsAllGoodTells c fault start list
  tells_all none = record {
    nets = λ t x inside known. net_told c circuit fault start list t inside (calm_at t none inside) x known;
    latches = λ t j inside. latch_told c circuit fault start list t inside (calm_at t none inside) j;
    outputs = λ t o inside. output_told c circuit fault start list t inside (calm_at t none inside) o;
  }

  pub shows_nothing : first_excited c fault start list (length list) ≡ None → ShowsNothing c fault start list
  shows_nothing none =
      let tells = tells_all none in
      record {
        detected = none_place output_place (detects_at c fault start list) (length c.outputs) (length list)
            (λ t o inside wide. unopposed _ _ (tells.outputs t o inside));
        possible = none_place output_place (may_detect_at c fault start list) (length c.outputs) (length list)
            (λ t o inside wide. unsure_none _ _ (tells.outputs t o inside));
        stored = none_place latch_place (stores_at c fault start list) (length c.dffs) (length list)
            (λ t j inside wide. unlike_none _ _ (tells.latches t j inside));
      }

  -- what would be false until the fault is excited, and is true at a vector, shows that it is excited there or before
  excited_by : (t : ℕ) (b : Bool) → t < length list → b ≡ true
      → (((s : ℕ) → s < t + 1 → excites_at c fault start list s ≡ false) → b ≡ false)
      → (s : ℕ) × (s ≤ t) × (first_excited c fault start list (length list) ≡ Some s)
  excited_by t b inside holds quiet = elim (cases_option (least_below (excites_at c fault start list) (t + 1))) [
    | inl none ↦
        let bad : b ≡ false = quiet (least_none (excites_at c fault start list) (t + 1) none) in
        absurd (let e : true ≡ false = sym holds ∙ bad in cc)
    | inr found ↦
        let least = least_some (excites_at c fault start list) (t + 1) found.0 found.1 in
        let e : t + 1 + (length list - (t + 1)) ≡ length list = omega (arith, inside) in (
          found.0,
          omega (arith, least.below),
          ap (least_below (excites_at c fault start list)) (sym e)
              ∙ least_longer (excites_at c fault start list) (t + 1) (length list - (t + 1)) found.0 found.1,
        )
  ]

  pub detected_excited : (p : Place) → first_detected c fault start list (length list) ≡ Some p
      → (s : ℕ) × (s ≤ p.vector) × (first_excited c fault start list (length list) ≡ Some s)
  detected_excited p h =
      let first = place_some output_place (detects_at c fault start list) (length c.outputs) (length list) p h in
      let at : p.vector ≡ first.vector = ap (λ (q : Place). q.vector) first.is in
      let found = excited_by first.vector _ first.below first.here
      (λ calm. unopposed _ _ (output_told c circuit fault start list first.vector first.below calm first.number)) in
      (found.0, omega (arith, found.1, at), found.2)

  pub possible_excited : (p : Place) → first_possible c fault start list (length list) ≡ Some p
      → (s : ℕ) × (s ≤ p.vector) × (first_excited c fault start list (length list) ≡ Some s)
  possible_excited p h =
      let first = place_some output_place (may_detect_at c fault start list) (length c.outputs) (length list) p h in
      let at : p.vector ≡ first.vector = ap (λ (q : Place). q.vector) first.is in
      let found = excited_by first.vector _ first.below first.here
      (λ calm. unsure_none _ _ (output_told c circuit fault start list first.vector first.below calm first.number)) in
      (found.0, omega (arith, found.1, at), found.2)

  pub stored_excited : (p : LatchPlace) → first_stored c fault start list (length list) ≡ Some p
      → (s : ℕ) × (s ≤ p.vector) × (first_excited c fault start list (length list) ≡ Some s)
  stored_excited p h =
      let first = place_some latch_place (stores_at c fault start list) (length c.dffs) (length list) p h in
      let at : p.vector ≡ first.vector = ap (λ (q : LatchPlace). q.vector) first.is in
      let found = excited_by first.vector _ first.below first.here
      (λ calm. unlike_none _ _ (latch_told c circuit fault start list first.vector first.below calm first.number)) in
      (found.0, omega (arith, found.1, at), found.2)

-- ---- the rows

rows_after_detected : (b : Option Place) (s : Option LatchPlace) (e : Option ℕ) (k : Bool)
    → 0 < table_row (cause_row None b s e k)
rows_after_detected (Some p) s e k = omega arith
rows_after_detected None (Some p) e k = omega arith
rows_after_detected None None (Some t) k = omega arith
rows_after_detected None None None true = omega arith
rows_after_detected None None None false = omega arith

rows_after_possible : (s : Option LatchPlace) (e : Option ℕ) (k : Bool) → 1 < table_row (cause_row None None s e k)
rows_after_possible (Some p) e k = omega arith
rows_after_possible None (Some t) k = omega arith
rows_after_possible None None true = omega arith
rows_after_possible None None false = omega arith

rows_after_stored : (e : Option ℕ) (k : Bool) → 2 < table_row (cause_row None None None e k)
rows_after_stored (Some t) k = omega arith
rows_after_stored None true = omega arith
rows_after_stored None false = omega arith

rows_after_stopped : (k : Bool) → 3 < table_row (cause_row None None None None k)
rows_after_stopped true = omega arith
rows_after_stopped false = omega arith

-- what is found stays found
abbrev Keeps : {X : Type 0} → Option X → Option X → Type 0
Keeps {X} a b = (x : X) → a ≡ Some x → b ≡ Some x

row_up : (a a' b b' : Option Place) (s s' : Option LatchPlace) (e e' : Option ℕ) (k k' : Bool)
    → Keeps a a' → Keeps b b' → Keeps s s' → Keeps e e' → (k ≡ true → k' ≡ true)
    → IsSameOrAbove (cause_row a b s e k) (cause_row a' b' s' e' k')
row_up (Some p) a' b b' s s' e e' k k' ha hb hs he hk = inl (rw (ha p refl) refl)
row_up None (Some p) b b' s s' e e' k k' ha hb hs he hk = inr (rows_after_detected b s e k)
row_up None None (Some p) b' s s' e e' k k' ha hb hs he hk = inl (rw (hb p refl) refl)
row_up None None None (Some p) s s' e e' k k' ha hb hs he hk = inr (rows_after_possible s e k)
row_up None None None None (Some p) s' e e' k k' ha hb hs he hk = inl (rw (hs p refl) refl)
row_up None None None None None (Some p) e e' k k' ha hb hs he hk = inr (rows_after_stored e k)
row_up None None None None None None (Some t) e' k k' ha hb hs he hk = inl (rw (he t refl) refl)
row_up None None None None None None None (Some t) k k' ha hb hs he hk = inr (rows_after_stopped k)
row_up None None None None None None None None true k' ha hb hs he hk = inl (rw (hk refl) refl)
row_up None None None None None None None None false true ha hb hs he hk = inr (omega arith)
row_up None None None None None None None None false false ha hb hs he hk = inl refl

-- ---- more vectors

module _ (c : Netlist) (fault : Fault) (start : List Tern) (list more : List (List Bool)) where
  longer_count : length list + length more ≡ length (list ++ more)
  longer_count = sym (length-append list more)

  carried_longer : (t : ℕ) → t < length list
      → carried_from c fault.site start (list ++ more) t ≡ carried_from c fault.site start list t
  carried_longer t inside = net_longer c None start list more t _ inside

  detected_kept : Keeps (first_detected c fault start list (length list))
      (first_detected c fault start (list ++ more) (length (list ++ more)))
  detected_kept p h =
      let same = place_same output_place (detects_at c fault start (list ++ more)) (detects_at c fault start list)
      (length c.outputs) (length list) (λ t o inside wide.
      ap (λ (v : Tern). are_opposite v (output_from c (Some fault) start (list ++ more) t o))
      (output_longer c None start list more t o inside)
      ∙ ap (are_opposite (output_from c None start list t o)) (output_longer c (Some fault) start list more t o inside))
      in
      ap (first_detected c fault start (list ++ more)) (sym longer_count)
      ∙ place_longer output_place (detects_at c fault start (list ++ more)) (length c.outputs) (length list)
      (length more) p (same ∙ h)

  possible_kept : Keeps (first_possible c fault start list (length list))
      (first_possible c fault start (list ++ more) (length (list ++ more)))
  possible_kept p h =
      let same = place_same output_place (may_detect_at c fault start (list ++ more)) (may_detect_at c fault start list)
      (length c.outputs) (length list) (λ t o inside wide.
      ap (λ (v : Tern). are_unsure v (output_from c (Some fault) start (list ++ more) t o))
      (output_longer c None start list more t o inside)
      ∙ ap (are_unsure (output_from c None start list t o)) (output_longer c (Some fault) start list more t o inside))
      in
      ap (first_possible c fault start (list ++ more)) (sym longer_count)
      ∙ place_longer output_place (may_detect_at c fault start (list ++ more)) (length c.outputs) (length list)
      (length more) p (same ∙ h)

  stored_kept : Keeps (first_stored c fault start list (length list))
      (first_stored c fault start (list ++ more) (length (list ++ more)))
  stored_kept p h =
      let same = place_same latch_place (stores_at c fault start (list ++ more)) (stores_at c fault start list)
      (length c.dffs) (length list) (λ t j inside wide.
      ap (λ (v : Tern). are_unlike v (latch_from c (Some fault) start (list ++ more) t j))
      (latch_longer c None start list more t j inside)
      ∙ ap (are_unlike (latch_from c None start list t j)) (latch_longer c (Some fault) start list more t j inside))
      in
      ap (first_stored c fault start (list ++ more)) (sym longer_count)
      ∙ place_longer latch_place (stores_at c fault start (list ++ more)) (length c.dffs) (length list)
      (length more) p (same ∙ h)

  excited_kept : Keeps (first_excited c fault start list (length list))
      (first_excited c fault start (list ++ more) (length (list ++ more)))
  excited_kept t h =
      let same = least_same (excites_at c fault start (list ++ more)) (excites_at c fault start list) (length list)
      (λ s inside. ap (λ (v : Tern). are_opposite v (tern_of fault.value)) (carried_longer s inside)) in
      ap (first_excited c fault start (list ++ more)) (sym longer_count)
      ∙ least_longer (excites_at c fault start (list ++ more)) (length list) (length more) t (same ∙ h)

  some_kept : (a b : Option ℕ) → Keeps a b → is_some a ≡ true → is_some b ≡ true
  some_kept None b keeps h = cc
  some_kept (Some t) b keeps h = ap (λ (o : Option ℕ). is_some o) (keeps t refl)

  told_kept : is_ever_told c fault start list (length list) ≡ true
      → is_ever_told c fault start (list ++ more) (length (list ++ more)) ≡ true
  told_kept = some_kept _ _ (λ t h.
      let same = least_same (tells_at c fault start (list ++ more)) (tells_at c fault start list) (length list)
      (λ s inside. ap is_told (carried_longer s inside)) in
      ap (least_below (tells_at c fault start (list ++ more))) (sym longer_count)
      ∙ least_longer (tells_at c fault start (list ++ more)) (length list) (length more) t (same ∙ h))

  -- a longer list leaves the cause, or moves it up
  pub moves_up : IsSameOrAbove (cause_of c fault start list) (cause_of c fault start (list ++ more))
  moves_up = row_up _ _ _ _ _ _ _ _ _ _ detected_kept possible_kept stored_kept excited_kept told_kept

-- ---- which rows are those of a fault that is excited

abbrev IsExcitedBy : {X : Type 0} → Option X → Option ℕ → Type 0
IsExcitedBy {X} a e = (x : X) → a ≡ Some x → e ≡ None → ⊥

row_excited : (a b : Option Place) (s : Option LatchPlace) (e : Option ℕ) (k : Bool)
    → IsExcitedBy a e → IsExcitedBy b e → IsExcitedBy s e
    → (table_row (cause_row a b s e k) < 4) ↔ (is_some e ≡ true)
row_excited a b s (Some t) k ha hb hs = (λ h. refl, λ h. low a b s)
  where
    low : (a b : Option Place) (s : Option LatchPlace) → table_row (cause_row a b s (Some t) k) < 4
    low (Some p) b s = omega arith
    low None (Some p) s = omega arith
    low None None (Some p) = omega arith
    low None None None = omega arith
row_excited (Some p) b s None k ha hb hs = absurd (ha p refl refl)
row_excited None (Some p) s None k ha hb hs = absurd (hb p refl refl)
row_excited None None (Some p) None k ha hb hs = absurd (hs p refl refl)
row_excited None None None None true ha hb hs = (λ h. absurd (omega arith), λ h. cc)
row_excited None None None None false ha hb hs = (λ h. absurd (omega arith), λ h. cc)

pub excited_rows : (c : Netlist) → IsCircuit c → (fault : Fault) (start : List Tern) (list : List (List Bool))
    → (table_row (cause_of c fault start list) < 4)
    ↔ (is_some (first_excited c fault start list (length list)) ≡ true)
excited_rows c circuit fault start list = row_excited _ _ _ _ _
    (λ p h none. let found = detected_excited c circuit fault start list p h in
    let bad : None ≡ Some found.0 = sym none ∙ found.2 in cc)
    (λ p h none. let found = possible_excited c circuit fault start list p h in
    let bad : None ≡ Some found.0 = sym none ∙ found.2 in cc)
    (λ p h none. let found = stored_excited c circuit fault start list p h in
    let bad : None ≡ Some found.0 = sym none ∙ found.2 in cc)

-- ---- first detections

opposite_by : (g f : Tern) → are_opposite g f ≡ true → Opposite g f
opposite_by Zero One h = tt
opposite_by One Zero h = tt
opposite_by Zero Zero h = cc
opposite_by Zero Unk h = cc
opposite_by One One h = cc
opposite_by One Unk h = cc
opposite_by Unk f h = cc

not_opposite_by : (g f : Tern) → are_opposite g f ≡ false → ¬ Opposite g f
not_opposite_by Zero One h k = cc
not_opposite_by One Zero h k = cc
not_opposite_by Zero Zero h k = k
not_opposite_by Zero Unk h k = k
not_opposite_by One One h k = k
not_opposite_by One Unk h k = k
not_opposite_by Unk f h k = k

module _ (c : Netlist) (fault : Fault) (start : List Tern) (list : List (List Bool)) where
  found_by : (o : Option Place) → first_detected c fault start list (length list) ≡ o
      → IsFirstFrom c fault start list o
  found_by None h = λ t o d.
      let within = opposite_within _ c (Some fault) start list t o d in
      not_opposite_by _ _ (place_none output_place (detects_at c fault start list) (length c.outputs) (length list) h
      t o within.0 within.1) d
  found_by (Some p) h =
      let first = place_some output_place (detects_at c fault start list) (length c.outputs) (length list) p h in
      let vector : p.vector ≡ first.vector = ap (λ (q : Place). q.vector) first.is in
      let output : p.output ≡ first.number = ap (λ (q : Place). q.output) first.is in (
        opposite_by _ _ (ap (λ (n : ℕ). detects_at c fault start list n p.output) vector
            ∙ (ap (detects_at c fault start list first.vector) output ∙ first.here)),
        λ t o before d.
            let within = opposite_within _ c (Some fault) start list t o d in
            not_opposite_by _ _ (elim before [
              | inl less ↦ first.earlier t o (omega (arith, less, vector)) within.1
              | inr same ↦
                  ap (λ (n : ℕ). detects_at c fault start list n o) (same.0 ∙ vector)
                  ∙ first.lower o (omega (arith, same.1, output))
            ]) d,
      )

  -- the first detection is the first one of a simulation
  pub is_first : IsFirstFrom c fault start list (first_detected c fault start list (length list))
  is_first = found_by _ refl

-- ---- members of a class

module _ (c : Netlist) (circuit : IsCircuit c) (f g : Fault) (same : SameClass c f g) (start : List Tern)
    (list : List (List Bool)) where
  rows_same : outputs_from c (Some f) start list ≡ outputs_from c (Some g) start list
  rows_same = (tern_members_alike c f g circuit same).outputs start (map terns_of list)

  shown_same : (t o : ℕ) → output_from c (Some f) start list t o ≡ output_from c (Some g) start list t o
  shown_same t o = ap (λ (rows : List (List Tern)). get_or (get_or rows t []) o Unk) rows_same

  held_same : (t j : ℕ) → latch_from c (Some f) start list t j ≡ latch_from c (Some g) start list t j
  held_same t j = ap (λ (s : List Tern). get_or s j Unk)
      ((tern_members_alike c f g circuit same).states start (map terns_of (take (t + 1) list)))

  -- members show the same first
  pub detected_alike : (n : ℕ) → first_detected c f start list n ≡ first_detected c g start list n
  detected_alike n = place_same output_place (detects_at c f start list) (detects_at c g start list)
      (length c.outputs) n (λ t o inside wide. ap (are_opposite (output_from c None start list t o)) (shown_same t o))

  pub possible_alike : (n : ℕ) → first_possible c f start list n ≡ first_possible c g start list n
  possible_alike n = place_same output_place (may_detect_at c f start list) (may_detect_at c g start list)
      (length c.outputs) n (λ t o inside wide. ap (are_unsure (output_from c None start list t o)) (shown_same t o))

  pub stored_alike : (n : ℕ) → first_stored c f start list n ≡ first_stored c g start list n
  stored_alike n = place_same latch_place (stores_at c f start list) (stores_at c g start list) (length c.dffs) n
      (λ t j inside wide. ap (are_unlike (latch_from c None start list t j)) (held_same t j))
