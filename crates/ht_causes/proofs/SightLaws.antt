-- What is kept of a fault, vector by vector.
use Rattle.std.proofs.Common.{◌≡◌, ◌<◌, ◌≤◌, ◌+◌, ◌-◌, ◌∙◌, inl, inr, ℕ, suc, List, [], Bool, true, false, Option, Some, None, length, get_or, take, sym, ap, arith}
use Rattle.std.specs.Prelude.{is_some}
use Rattle.std.specs.Option.{option_map, option_or}
use Rattle.std.proofs.lemmas.List.{ext_get_or}
use Rattle.ht_tern.specs.declared.tern.Tern.{Tern}
use Rattle.ht_tern.specs.declared.tern.Tern.TheVariants.{Unk}
use Rattle.ht_tern.specs.Gate.{tern_of}
use Rattle.ht_tern.specs.Opposite.{are_opposite}
use Rattle.ht_net.specs.declared.fault.Fault.{Fault}
use Rattle.ht_net.specs.declared.place.Place.{Place}
use Rattle.ht_net.specs.Circuit.Netlist.{Netlist}
use Rattle.ht_net.specs.Frames.Frame.{next_state}
use Rattle.ht_net.specs.Frames.Faults.{tern_rules}
use Rattle.ht_net.specs.Detect.Detection.{output_from, state_from, terns_of}
use Rattle.ht_net.proofs.ValueLaws.{next_long}
use Rattle.ht_group.specs.GroupView.{GroupView, good_next, good_output}
use Rattle.ht_causes.specs.declared.cause.LatchPlace.{LatchPlace}
use Rattle.ht_causes.specs.declared.sightings.Sightings.{Sightings}
use Rattle.ht_causes.specs.Firsts.{least_below, least_place}
use Rattle.ht_causes.specs.Compared.{are_unlike, are_unsure, carried_from, detects_at, excites_at, first_detected, first_excited, first_possible, first_stored, is_ever_told, is_told, latch_from, latch_place, may_detect_at, output_place, stores_at, tells_at}
use Rattle.ht_causes.specs.Causes.{AreSightings, cause_of, cause_row, cause_within}
use Rattle.ht_causes.specs.Kept.{AreLatchesCompared, AreOutputsCompared, no_sightings, with_carried}
use Rattle.ht_causes.proofs.LeastLaws.{cases_option, least_same, place_longer}
use Rattle.ht_causes.proofs.KeptLaws.{here_more, some_more}
use Rattle.ht_causes.proofs.RunToldLaws.{row_frame, state_next}

-- the good latches, read one by one
pub latches_read : (c : Netlist) (good : GroupView) (latches : List Tern) (j : ℕ) → good.circuit ≡ c
    → length latches ≡ length c.dffs → length c.dffs ≤ j
    → ((i : ℕ) → i < j → get_or latches i Unk ≡ good_next good i)
    → latches ≡ next_state c (tern_rules None) good.vector good.latches
latches_read c good latches j is each done read =
    ext_get_or Unk latches (next_state c (tern_rules None) good.vector good.latches)
    (each ∙ sym (next_long c (tern_rules None) good.vector good.latches))
    (λ i inside. read i (omega (arith, inside, each, done))
    ∙ ap (λ (n : Netlist). get_or (next_state n (tern_rules None) good.vector good.latches) i Unk) is)

-- a place over one vector more
place_more : {X : Type 0} → (place : ℕ → ℕ → X) (holds : ℕ → ℕ → Bool) (width n : ℕ)
    → least_place place holds width (n + 1)
    ≡ option_or (least_place place holds width n) (option_map (place n) (least_below (holds n) width))
place_more place holds width n =
    let e : n + 1 ≡ suc n = omega arith in ap (least_place place holds width) e

-- the good machine alone in a frame that has begun
abbrev pub good_alone : Netlist → List Bool → List Tern → GroupView
good_alone c vector latches = record {
  circuit = c;
  vector = terns_of vector;
  latches = latches;
  machines = [];
  settled = true;
}

module _ (c : Netlist) (fault : Fault) (start : List Tern) (list : List (List Bool)) (t : ℕ)
    (inside : t < length list) where
  -- the frame of the good machine at the vector
  abbrev pub IsGoodFrame : GroupView → Type 0
  IsGoodFrame good = good ≡ good_alone c (get_or list t []) (state_from c None start (take t list))

  good_shows : (good : GroupView) → IsGoodFrame good → (o : ℕ) → good_output good o ≡ output_from c None start list t o
  good_shows good is o =
      ap (λ (g : GroupView). good_output g o) is
      ∙ ap (λ (row : List Tern). get_or row o Unk) (sym (row_frame c None start list t inside))

  good_takes : (good : GroupView) → IsGoodFrame good → (j : ℕ) → good_next good j ≡ latch_from c None start list t j
  good_takes good is j =
      ap (λ (g : GroupView). good_next g j) is
      ∙ ap (λ (s : List Tern). get_or s j Unk) (sym (state_next c None start list t inside))

  -- what is kept after the carried value and the outputs, and what after the flip-flops
  pub outputs_kept : (good : GroupView) (faulty : List Tern) (k0 k1 k2 : Sightings) (v : Tern)
      → IsGoodFrame good → ((o : ℕ) → get_or faulty o Unk ≡ output_from c (Some fault) start list t o)
      → v ≡ carried_from c fault.site start list t → AreSightings c fault start list t k0
      → k1 ≡ with_carried t v fault.value k0
      → AreOutputsCompared t (length c.outputs) (good_output good) (λ o. get_or faulty o Unk) k1 k2
      → k2.detected ≡ first_detected c fault start list (t + 1)
  outputs_kept good faulty k0 k1 k2 v is shows carries before noted outputs =
      outputs.detected
      ∙ (ap (λ (q : Option Place). option_or q (option_map (output_place t)
      (least_below (λ o. are_opposite (good_output good o) (get_or faulty o Unk)) (length c.outputs))))
      (ap (λ (k : Sightings). k.detected) noted ∙ before.detected)
      ∙ (ap (λ (q : Option ℕ). option_or (first_detected c fault start list t) (option_map (output_place t) q))
      (least_same (λ o. are_opposite (good_output good o) (get_or faulty o Unk)) (detects_at c fault start list t)
      (length c.outputs) (λ o less. ap (λ (w : Tern). are_opposite w (get_or faulty o Unk)) (good_shows good is o)
      ∙ ap (are_opposite (output_from c None start list t o)) (shows o)))
      ∙ sym (place_more output_place (detects_at c fault start list) (length c.outputs) t)))

  pub frame_kept : (good : GroupView) (faulty held : List Tern) (k0 k1 k2 k3 : Sightings) (v : Tern)
      → IsGoodFrame good → ((o : ℕ) → get_or faulty o Unk ≡ output_from c (Some fault) start list t o)
      → ((j : ℕ) → get_or held j Unk ≡ latch_from c (Some fault) start list t j)
      → v ≡ carried_from c fault.site start list t → AreSightings c fault start list t k0
      → k1 ≡ with_carried t v fault.value k0
      → AreOutputsCompared t (length c.outputs) (good_output good) (λ o. get_or faulty o Unk) k1 k2
      → AreLatchesCompared t (length c.dffs) (good_next good) (λ j. get_or held j Unk) k2 k3
      → AreSightings c fault start list (t + 1) k3
  frame_kept good faulty held k0 k1 k2 k3 v is shows holds carries before noted outputs latches = record {
    detected = latches.detected ∙ outputs_kept good faulty k0 k1 k2 v is shows carries before noted outputs;
    possible =
        latches.possible
        ∙ (outputs.possible
        ∙ (ap (λ (q : Option Place). option_or q (option_map (output_place t)
        (least_below (λ o. are_unsure (good_output good o) (get_or faulty o Unk)) (length c.outputs))))
        (ap (λ (k : Sightings). k.possible) noted ∙ before.possible)
        ∙ (ap (λ (q : Option ℕ). option_or
        (least_place output_place (may_detect_at c fault start list) (length c.outputs) t)
        (option_map (output_place t) q))
        (least_same (λ o. are_unsure (good_output good o) (get_or faulty o Unk)) (may_detect_at c fault start list t)
        (length c.outputs) (λ o less. ap (λ (w : Tern). are_unsure w (get_or faulty o Unk)) (good_shows good is o)
        ∙ ap (are_unsure (output_from c None start list t o)) (shows o)))
        ∙ sym (place_more output_place (may_detect_at c fault start list) (length c.outputs) t))));
    stored =
        latches.stored
        ∙ (ap (λ (q : Option LatchPlace). option_or q (option_map (latch_place t)
        (least_below (λ j. are_unlike (good_next good j) (get_or held j Unk)) (length c.dffs))))
        (outputs.stored ∙ (ap (λ (k : Sightings). k.stored) noted ∙ before.stored))
        ∙ (ap (λ (q : Option ℕ). option_or
        (least_place latch_place (stores_at c fault start list) (length c.dffs) t)
        (option_map (latch_place t) q))
        (least_same (λ j. are_unlike (good_next good j) (get_or held j Unk)) (stores_at c fault start list t)
        (length c.dffs) (λ j less. ap (λ (w : Tern). are_unlike w (get_or held j Unk)) (good_takes good is j)
        ∙ ap (are_unlike (latch_from c None start list t j)) (holds j)))
        ∙ sym (place_more latch_place (stores_at c fault start list) (length c.dffs) t)));
    excited =
        latches.excited
        ∙ (outputs.excited
        ∙ (ap (λ (k : Sightings). k.excited) noted
        ∙ here_more (excites_at c fault start list) t k0.excited (are_opposite v (tern_of fault.value)) before.excited
        (ap (λ (w : Tern). are_opposite w (tern_of fault.value)) carries)));
    told =
        latches.told
        ∙ (outputs.told
        ∙ (ap (λ (k : Sightings). k.told) noted
        ∙ some_more (tells_at c fault start list) t k0.told (is_told v) before.told (ap is_told carries)));
  }

-- what is kept says the cause over these vectors
pub kept_cause : (c : Netlist) (fault : Fault) (start : List Tern) (list : List (List Bool)) (n : ℕ) (k : Sightings)
    → AreSightings c fault start list n k
    → cause_row k.detected k.possible k.stored k.excited k.told ≡ cause_within c fault start list n
kept_cause c fault start list n k kept =
    λ i. cause_row (kept.detected i) (kept.possible i) (kept.stored i) (kept.excited i) (kept.told i)

early_cause : (c : Netlist) (fault : Fault) (start : List Tern) (list : List (List Bool)) (n : ℕ) (p : Place)
    (k : Sightings) → n ≤ length list → k.detected ≡ first_detected c fault start list n → k.detected ≡ Some p
    → cause_row k.detected k.possible k.stored k.excited k.told ≡ cause_of c fault start list
early_cause c fault start list n p k inside is found =
    let e : n + (length list - n) ≡ length list = omega arith in
    let later : first_detected c fault start list (length list) ≡ Some p =
    ap (first_detected c fault start list) (sym e)
    ∙ place_longer output_place (detects_at c fault start list) (length c.outputs) n (length list - n) p
    (sym is ∙ found) in
    ap (λ (q : Option Place). cause_row q k.possible k.stored k.excited k.told) found
    ∙ sym (ap (λ (q : Option Place). cause_row q (first_possible c fault start list (length list))
    (first_stored c fault start list (length list)) (first_excited c fault start list (length list))
    (is_ever_told c fault start list (length list))) later)

-- a detection decides the cause, whatever comes after it
pub detected_cause : (c : Netlist) (fault : Fault) (start : List Tern) (list : List (List Bool)) (n : ℕ)
    (k : Sightings) → n ≤ length list → k.detected ≡ first_detected c fault start list n → is_some k.detected ≡ true
    → cause_row k.detected k.possible k.stored k.excited k.told ≡ cause_of c fault start list
detected_cause c fault start list n k inside is found = elim (cases_option k.detected) [
  | inl none ↦ absurd (let bad : false ≡ true = sym (ap (λ (o : Option Place). is_some o) none) ∙ found in cc)
  | inr some ↦ early_cause c fault start list n some.0 k inside is some.1
]

-- over all vectors what is kept says the cause
pub whole_cause : (c : Netlist) (fault : Fault) (start : List Tern) (list : List (List Bool)) (n : ℕ) (k : Sightings)
    → n ≡ length list → AreSightings c fault start list n k
    → cause_row k.detected k.possible k.stored k.excited k.told ≡ cause_of c fault start list
whole_cause c fault start list n k done kept =
    kept_cause c fault start list n k kept ∙ ap (cause_within c fault start list) done

-- ---- before the first vector

pub none_kept : (c : Netlist) (fault : Fault) (start : List Tern) (list : List (List Bool)) (k : Sightings)
    → k ≡ no_sightings → AreSightings c fault start list 0 k
none_kept c fault start list k is = record {
  detected = ap (λ (q : Sightings). q.detected) is;
  possible = ap (λ (q : Sightings). q.possible) is;
  stored = ap (λ (q : Sightings). q.stored) is;
  excited = ap (λ (q : Sightings). q.excited) is;
  told = ap (λ (q : Sightings). q.told) is;
}
