-- A grader that stands for a list of vectors, once one more is applied.
use Rattle.std.proofs.Common.{◌≡◌, ◌<◌, ◌∙◌, ◌⊎◌, ℕ, List, [], ◌∷◌, ◌++◌, Bool, length, get_or, map, refl, ap, sym, arith, subst, Option, Some, None, inl, inr, length-append}
use Rattle.std.specs.List.{slice_get}
use Rattle.std.proofs.lemmas.List.{get_or_append_left, map-append}
use Rattle.std.proofs.Math.Seq.{get_or-append_seam}
use Rattle.ht_tern.specs.declared.tern.Tern.{Tern}
use Rattle.ht_tern.specs.declared.tern.Tern.TheVariants.{Unk}
use Rattle.ht_tern.specs.Opposite.{Opposite}
use Rattle.ht_net.specs.declared.fault.Fault.{Fault}
use Rattle.ht_net.specs.declared.place.Place.{Place}
use Rattle.ht_net.specs.Circuit.Netlist.{Netlist}
use Rattle.ht_net.specs.Frames.Frame.{Rules, run_state, run_outputs, next_state, frame_outputs}
use Rattle.ht_net.specs.Frames.Faults.{tern_rules}
use Rattle.ht_net.specs.Detect.Detection.{ApartFrom, DetectsFrom, IsBefore, IsFirstFrom, output_from, outputs_from, state_from, terns_of}
use Rattle.ht_net.proofs.FrameLaws.{le_or_lt}
use Rattle.ht_net.proofs.ApartLaws.{detected_apart_from}
use Rattle.ht_serial.proofs.ContradictionLaws.{opposite_inside, opposite_within}
use Rattle.ht_serial.proofs.RowLaws.{rows_count}
use Rattle.ht_serial.proofs.RunLaws.{frame_width, run_state_more}
use Rattle.ht_group.specs.GroupView.{GroupView, FaultyMachine, good_output, faulty_output}
use Rattle.ht_proofs.specs.PackedView.{PackedView, GraderStandsFor, verdict_at}
use Rattle.ht_proofs.specs.Applied.{IsApplied, IsFirstSeen, IsSeen, grader_frame, machine_at}

-- ---- runs

-- a run over one more vector
outputs_more : {V : Type 0} → (c : Netlist) (r : Rules V) (latches : List V) (vectors : List (List V)) (v : List V)
    → run_outputs c r latches (vectors ++ v ∷ [])
    ≡ run_outputs c r latches vectors ++ frame_outputs c r v (run_state c r latches vectors) ∷ []
outputs_more c r latches [] v = refl
outputs_more c r latches (w ∷ vectors) v =
    ap (λ t. frame_outputs c r w latches ∷ t) (outputs_more c r (next_state c r w latches) vectors v)

-- ---- runs of lists of bits, from a start

pub latches_more : (c : Netlist) (f : Option Fault) (start : List Tern) (list : List (List Bool)) (v : List Bool)
    → state_from c f start (list ++ v ∷ [])
    ≡ next_state c (tern_rules f) (terns_of v) (state_from c f start list)
latches_more c f start list v =
    ap (λ (l : List (List Tern)). run_state c (tern_rules f) start l) (map-append terns_of list (v ∷ []))
    ∙ run_state_more c (tern_rules f) start (map terns_of list) (terns_of v)

rows_more : (c : Netlist) (f : Option Fault) (start : List Tern) (list : List (List Bool)) (v : List Bool)
    → outputs_from c f start (list ++ v ∷ [])
    ≡ outputs_from c f start list ++ frame_outputs c (tern_rules f) (terns_of v) (state_from c f start list) ∷ []
rows_more c f start list v =
    ap (λ (l : List (List Tern)). run_outputs c (tern_rules f) start l) (map-append terns_of list (v ∷ []))
    ∙ outputs_more c (tern_rules f) start (map terns_of list) (terns_of v)

-- what is shown before the last vector, and at it
shown_before : (c : Netlist) (f : Option Fault) (start : List Tern) (list : List (List Bool)) (v : List Bool) (t o : ℕ)
    → t < length list
    → output_from c f start (list ++ v ∷ []) t o ≡ output_from c f start list t o
shown_before c f start list v t o h = ap (λ (row : List Tern). get_or row o Unk)
    (ap (λ (rows : List (List Tern)). get_or rows t []) (rows_more c f start list v)
    ∙ get_or_append_left (outputs_from c f start list) _ [] t (omega (arith, h, rows_count c f start list)))

shown_last : (c : Netlist) (f : Option Fault) (start : List Tern) (list : List (List Bool)) (v : List Bool) (t o : ℕ)
    → t ≡ length list
    → output_from c f start (list ++ v ∷ []) t o
    ≡ get_or (frame_outputs c (tern_rules f) (terns_of v) (state_from c f start list)) o Unk
shown_last c f start list v t o h =
    let last = frame_outputs c (tern_rules f) (terns_of v) (state_from c f start list) in
    ap (λ (row : List Tern). get_or row o Unk)
    (ap (λ (rows : List (List Tern)). get_or rows t []) (rows_more c f start list v)
    ∙ (ap (λ (n : ℕ). get_or (outputs_from c f start list ++ last ∷ []) n []) (h ∙ sym (rows_count c f start list))
    ∙ get_or-append_seam (outputs_from c f start list) last [] []))

-- ---- what is detected

opposite_along : (a b x y : Tern) → a ≡ x → b ≡ y → Opposite a b → Opposite x y
opposite_along a b x y p q h = subst (λ t. Opposite x t) q (subst (λ t. Opposite t b) p h)

-- what is detected is detected at a vector of the list, and at an output of the circuit
pub found_inside : (c : Netlist) (f : Fault) (start : List Tern) (list : List (List Bool)) (t o : ℕ)
    → DetectsFrom c f start list t o → t < length list
found_inside c f start list t o d =
    (opposite_within (output_from c None start list t o) c (Some f) start list t o d).0

-- what is detected is detected at an output of the circuit
pub found_output : (c : Netlist) (f : Fault) (start : List Tern) (list : List (List Bool)) (t o : ℕ)
    → DetectsFrom c f start list t o → o < length c.outputs
found_output c f start list t o d =
    (opposite_within (output_from c None start list t o) c (Some f) start list t o d).1

-- What the longer list detects before its last vector is what the list detects.
detects_shorter : (c : Netlist) (f : Fault) (start : List Tern) (list : List (List Bool)) (v : List Bool) (t o : ℕ)
    → t < length list
    → DetectsFrom c f start (list ++ v ∷ []) t o → DetectsFrom c f start list t o
detects_shorter c f start list v t o h d =
    opposite_along _ _ _ _ (shown_before c None start list v t o h) (shown_before c (Some f) start list v t o h) d

detects_longer : (c : Netlist) (f : Fault) (start : List Tern) (list : List (List Bool)) (v : List Bool) (t o : ℕ)
    → t < length list
    → DetectsFrom c f start list t o → DetectsFrom c f start (list ++ v ∷ []) t o
detects_longer c f start list v t o h d =
    opposite_along _ _ _ _ (sym (shown_before c None start list v t o h))
    (sym (shown_before c (Some f) start list v t o h)) d

before_inside : (t o n : ℕ) (p : Place) → IsBefore t o p → p.vector < n → t < n
before_inside t o n p (inl less) h = omega (arith, less, h)
before_inside t o n p (inr same) h = omega (arith, same.0, h)

-- a first detection stays the first
first_kept : (c : Netlist) (f : Fault) (start : List Tern) (list : List (List Bool)) (v : List Bool) (p : Place)
    → IsFirstFrom c f start list (Some p) → IsFirstFrom c f start (list ++ v ∷ []) (Some p)
first_kept c f start list v p first =
    let inside : p.vector < length list = found_inside c f start list p.vector p.output first.0 in (
      detects_longer c f start list v p.vector p.output inside first.0,
      λ t o before d. first.1 t o before
          (detects_shorter c f start list v t o (before_inside t o (length list) p before inside) d),
    )

-- What the last vector detects is seen in its frame.
pub record IsLast (frame : GroupView) (m : FaultyMachine) (start : List Tern) (list : List (List Bool))
    (v : List Bool) : Type 0 where
  pub vector : frame.vector ≡ terns_of v
  pub good : frame.latches ≡ state_from frame.circuit None start list
  pub faulty : m.latches ≡ state_from frame.circuit (Some m.fault) start list

good_last : (frame : GroupView) (m : FaultyMachine) (start : List Tern) (list : List (List Bool)) (v : List Bool)
    (t o : ℕ)
    → IsLast frame m start list v → t ≡ length list
    → output_from frame.circuit None start (list ++ v ∷ []) t o ≡ good_output frame o
good_last frame m start list v t o last at =
    shown_last frame.circuit None start list v t o at
    ∙ (ap (λ (s : List Tern). get_or (frame_outputs frame.circuit (tern_rules None) (terns_of v) s) o Unk)
    (sym last.good)
    ∙ ap (λ (w : List Tern). get_or (frame_outputs frame.circuit (tern_rules None) w frame.latches) o Unk)
    (sym last.vector))

faulty_last : (frame : GroupView) (m : FaultyMachine) (start : List Tern) (list : List (List Bool)) (v : List Bool)
    (t o : ℕ)
    → IsLast frame m start list v → t ≡ length list
    → output_from frame.circuit (Some m.fault) start (list ++ v ∷ []) t o ≡ faulty_output frame m o
faulty_last frame m start list v t o last at =
    let r = tern_rules (Some m.fault) in
    shown_last frame.circuit (Some m.fault) start list v t o at
    ∙ (ap (λ (s : List Tern). get_or (frame_outputs frame.circuit r (terns_of v) s) o Unk) (sym last.faulty)
    ∙ ap (λ (w : List Tern). get_or (frame_outputs frame.circuit r w m.latches) o Unk) (sym last.vector))

detects_last : (frame : GroupView) (m : FaultyMachine) (start : List Tern) (list : List (List Bool)) (v : List Bool)
    (t o : ℕ)
    → IsLast frame m start list v → t ≡ length list → IsSeen frame m o
    → DetectsFrom frame.circuit m.fault start (list ++ v ∷ []) t o
detects_last frame m start list v t o last at h =
    opposite_along _ _ _ _ (sym (good_last frame m start list v t o last at))
    (sym (faulty_last frame m start list v t o last at)) h

seen_last : (frame : GroupView) (m : FaultyMachine) (start : List Tern) (list : List (List Bool)) (v : List Bool)
    (t o : ℕ)
    → IsLast frame m start list v → t ≡ length list → DetectsFrom frame.circuit m.fault start (list ++ v ∷ []) t o
    → IsSeen frame m o
seen_last frame m start list v t o last at d =
    opposite_along _ _ _ _ (good_last frame m start list v t o last at) (faulty_last frame m start list v t o last at) d

-- what is seen is seen at an output
seen_inside : (frame : GroupView) (m : FaultyMachine) (o : ℕ) → IsSeen frame m o → o < length frame.circuit.outputs
seen_inside frame m o h =
    let r = tern_rules (Some m.fault) in
    let inside = opposite_inside (good_output frame o) (frame_outputs frame.circuit r frame.vector m.latches) o h in
    omega (arith, inside, frame_width frame.circuit r frame.vector m.latches)

-- Where no vector before detects the fault, the last one decides.
pub first_new : (frame : GroupView) (m : FaultyMachine) (start : List Tern) (list : List (List Bool)) (v : List Bool)
    (number : ℕ)
    (verdict : Option Place) → IsLast frame m start list v → number ≡ length list
    → IsFirstFrom frame.circuit m.fault start list None
    → IsFirstSeen frame m number (length frame.circuit.outputs) verdict
    → IsFirstFrom frame.circuit m.fault start (list ++ v ∷ []) verdict
first_new frame m start list v number (Some p) last count none is =
    let at : p.vector ≡ length list = is.0 ∙ count in (
      detects_last frame m start list v p.vector p.output last at is.2,
      λ t o before d. elim before [
        | inl earlier ↦
            none t o (detects_shorter frame.circuit m.fault start list v t o (omega (arith, earlier, at)) d)
        | inr same ↦ is.3 o same.1 (seen_last frame m start list v t o last (same.0 ∙ at) d)
      ],
    )
first_new frame m start list v number None last count none is = λ t o d. elim (le_or_lt (length list) t) [
  | inl from ↦
      let inside : t < length (list ++ v ∷ []) = found_inside frame.circuit m.fault start (list ++ v ∷ []) t o d in
      let at : t ≡ length list = omega (arith, from, inside, length-append list (v ∷ [])) in
      let seen = seen_last frame m start list v t o last at d in
      is o (seen_inside frame m o seen) seen
  | inr before ↦ none t o (detects_shorter frame.circuit m.fault start list v t o before d)
]

-- an option is none or holds something
pub option_cases : {X : Type 0} → (x : Option X) → (x ≡ None) ⊎ ((p : X) × (x ≡ Some p))
option_cases None = inl refl
option_cases (Some p) = inr (p, refl)

-- a fault that isn't detected wasn't before
still_undetected : (g : PackedView) (v : List Bool) (h : PackedView) (k : ℕ) → IsApplied g v h → verdict_at h k ≡ None
    → verdict_at g k ≡ None
still_undetected g v h k a e = elim (option_cases (verdict_at g k)) [
  | inl was ↦ was
  | inr p ↦ let bad : None ≡ Some p.0 = sym e ∙ a.kept k p.0 p.1 in cc
]

last_frame : (g : PackedView) (start : List Tern) (list : List (List Bool)) (v : List Bool) (k : ℕ) (f : Fault)
    → GraderStandsFor g start list
    → slice_get g.faults k ≡ Some f → verdict_at g k ≡ None → IsLast (grader_frame g v) (machine_at g k f) start list v
last_frame g start list v k f s has none = record {
  vector = refl;
  good = s.good;
  faulty = s.state k f has none;
}

-- a grader that stands for a list stands for one vector more after that vector is applied
pub applied_stands : (g h : PackedView) (start : List Tern) (list : List (List Bool)) (v : List Bool)
    → GraderStandsFor g start list
    → IsApplied g v h → GraderStandsFor h start (list ++ v ∷ [])
applied_stands g h start list v s a = record {
  counted = omega (arith, a.counted, s.counted, length-append list (v ∷ []));
  good =
      rw a.circuit_same
      (a.good ∙ (ap (next_state g.circuit (tern_rules None) (terns_of v)) s.good
      ∙ sym (latches_more g.circuit None start list v)));
  first = λ k f has.
      let had : slice_get g.faults k ≡ Some f = ap (λ (l : List Fault). slice_get l k) (sym a.faults_same) ∙ has in
      let first = s.first k f had in
      rw a.circuit_same (elim (option_cases (verdict_at g k)) [
        | inl e ↦
            first_new (grader_frame g v) (machine_at g k f) start list v g.count (verdict_at h k)
            (last_frame g start list v k f s had e) s.counted (subst (IsFirstFrom g.circuit f start list) e first)
            (a.seen k f had e)
        | inr p ↦
            subst (IsFirstFrom g.circuit f start (list ++ v ∷ [])) (sym (a.kept k p.0 p.1))
            (first_kept g.circuit f start list v p.0 (subst (IsFirstFrom g.circuit f start list) p.1 first))
      ]);
  state = λ k f has e.
      let had : slice_get g.faults k ≡ Some f = ap (λ (l : List Fault). slice_get l k) (sym a.faults_same) ∙ has in
      let was = still_undetected g v h k a e in
      rw a.circuit_same (a.state k f had e
      ∙ (ap (next_state g.circuit (tern_rules (Some f)) (terns_of v)) (s.state k f had was)
      ∙ sym (latches_more g.circuit (Some f) start list v)));
}

-- Where a grader stands for a list, its verdicts are within it, and apart.
pub verdict_within : (g : PackedView) (start : List Tern) (list : List (List Bool)) (k : ℕ) (f : Fault) (p : Place)
    → GraderStandsFor g start list
    → slice_get g.faults k ≡ Some f → verdict_at g k ≡ Some p
    → (p.vector < length list) × (p.output < length g.circuit.outputs)
    × ApartFrom g.circuit f start list p.vector p.output
verdict_within g start list k f p s has is =
    let first = subst (IsFirstFrom g.circuit f start list) is (s.first k f has) in (
      found_inside g.circuit f start list p.vector p.output first.0,
      found_output g.circuit f start list p.vector p.output first.0,
      detected_apart_from g.circuit f start list p.vector p.output first.0,
    )
