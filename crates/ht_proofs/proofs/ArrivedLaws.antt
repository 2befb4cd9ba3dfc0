-- What is kept of a fault of good latches, by where its effect ends.
use Rattle.std.proofs.Common.{◌≡◌, ◌≢◌, ◌<◌, ◌∙◌, ℕ, zero, suc, List, [], ◌∷◌, All, Bool, true, false, Option, Some, None, MatchOption, length, get_or, refl, sym, ap, subst, arith, inl, inr}
use Rattle.std.proofs.lemmas.Bool.{cases_eq}
use Rattle.std.proofs.lemmas.List.{get_or-set_other, get_or-set_same}
use Rattle.ht_tern.specs.declared.tern.Tern.{Tern}
use Rattle.ht_tern.specs.declared.tern.Tern.TheVariants.{Zero, One, Unk}
use Rattle.ht_tern.specs.Opposite.{Opposite, are_opposite}
use Rattle.ht_tern.proofs.OppositeLaws.{opposite_tested}
use Rattle.ht_net.specs.declared.fault.Fault.{Fault}
use Rattle.ht_net.specs.declared.place.Place.{Place}
use Rattle.ht_net.specs.Circuit.Netlist.{Netlist}
use Rattle.ht_net.specs.Frames.Frame.{Rules, frame_outputs, net_value, next_state}
use Rattle.ht_net.specs.Frames.Faults.{tern_rules}
use Rattle.ht_net.proofs.ValueLaws.{seen_length}
use Rattle.ht_stems.specs.declared.arrival.Arrival.{Arrival}
use Rattle.ht_stems.specs.declared.arrival.Arrival.TheVariants.{Dies, AtLatch, AtOutput, AtStem}
use Rattle.ht_group.specs.declared.diffs.Diff.{Diff}
use Rattle.ht_group.specs.GroupView.{GroupView, FaultyMachine, AreLatches, faulty_output, good_output}
use Rattle.ht_proofs.specs.declared.grade.Grade.{Grade}
use Rattle.ht_proofs.specs.Applied.{IsFirstSeen, IsSeen, good_state}
use Rattle.ht_proofs.specs.LaneGrades.{no_grade, first_place, IsGradedFault}
use Rattle.ht_proofs.specs.Batches.{machine_from}
use Rattle.ht_proofs.specs.Followers.{arrived_grade, is_at_stem, EndsAt}
use Rattle.ht_proofs.proofs.SeenLaws.{is_seen_at}
use Rattle.ht_proofs.proofs.DiffLaws.{no_differences, one_difference}
use Rattle.ht_proofs.proofs.BatchLaws.{same_frame}

-- the machine of a fault that holds the good latches
abbrev pub from_good : GroupView → Fault → FaultyMachine
from_good frame fault = record { fault = fault; latches = frame.latches }

-- it is the machine of which nothing is kept
pub from_good_is : (frame : GroupView) (fault : Fault) (grade : Grade) → grade ≡ no_grade
    → from_good frame fault ≡ machine_from frame fault grade
from_good_is frame fault grade none =
    ap (λ (l : List Tern). record { fault = fault; latches = l }) (sym (no_differences frame.latches))
    ∙ ap (λ (g : Grade). machine_from frame fault g) (sym none)

-- ---- where it isn't seen, and where it is

not_itself : (v : Tern) → ¬ Opposite v v
not_itself Zero h = h
not_itself One h = h
not_itself Unk h = h

unseen : (frame : GroupView) (m : FaultyMachine) (o : ℕ) → faulty_output frame m o ≡ good_output frame o
    → ¬ IsSeen frame m o
unseen frame m o same seen =
    not_itself (good_output frame o) (subst (λ (v : Tern). Opposite (good_output frame o) v) same seen)

seen_only : (frame : GroupView) (m : FaultyMachine) (number n o : ℕ) (seen : Bool) → seen ≡ is_seen_at frame m o
    → o < n → ((k : ℕ) → k ≢ o → ¬ IsSeen frame m k)
    → IsFirstSeen frame m number n (first_place seen (record { vector = number; output = o }) None)
seen_only frame m number n o true is inside others = (
  refl,
  inside,
  (opposite_tested (good_output frame o) (faulty_output frame m o)).0 (sym is),
  λ k less. others k (omega (arith, less)),
)
seen_only frame m number n o false is inside others = λ k less seen. elim (cases_eq k o) [
  | inl here ↦
      let told : is_seen_at frame m o ≡ true =
      (opposite_tested (good_output frame o) (faulty_output frame m o)).1 (subst (IsSeen frame m) here seen) in
      let bad : true ≡ false = sym told ∙ sym is in
      cc
  | inr other ↦ others k other seen
]

-- as many values are shown as there are outputs
outputs_long : (c : Netlist) (r : Rules Tern) (vector latches : List Tern)
    → length (frame_outputs c r vector latches) ≡ length c.outputs
unfolding frame_outputs
outputs_long c r vector latches = seen_length (net_value c r vector latches) c.outputs

-- ---- what is kept

one_known : (n : ℕ) (d : Diff) → d.latch < n → All (λ (e : Diff). e.latch < n) (d ∷ [])
one_known n d known zero e less = known
one_known n d known (suc k) e less = absurd (omega arith)

-- at flip-flops of the circuit
pub arrived_known : (frame : GroupView) (fault : Fault) (number : ℕ) (a : Arrival) → EndsAt frame fault a
    → AreLatches frame.circuit (arrived_grade frame number a).diffs
arrived_known frame fault number Dies ends = λ k d less. absurd (omega arith)
arrived_known frame fault number (AtLatch j v) ends =
    one_known (length frame.circuit.dffs) (record { latch = j; value = v }) ends.within
arrived_known frame fault number (AtOutput o v) ends = λ k d less. absurd (omega arith)
arrived_known frame fault number (AtStem x v) ends = λ k d less. absurd (omega arith)

-- the grade of the frame
pub arrived_graded : (frame : GroupView) (fault : Fault) (number : ℕ) (a : Arrival) → EndsAt frame fault a
    → is_at_stem a ≡ false → IsGradedFault frame (from_good frame fault) number (arrived_grade frame number a)
arrived_graded frame fault number Dies ends not_stem = record {
  seen = λ o less. unseen frame (from_good frame fault) o (ap (λ (l : List Tern). get_or l o Unk) ends.shows.outputs);
  state = λ none. no_differences (good_state frame) ∙ sym ends.shows.next;
  known = arrived_known frame fault number Dies ends;
}
arrived_graded frame fault number (AtLatch j v) ends not_stem = record {
  seen = λ o less. unseen frame (from_good frame fault) o (ap (λ (l : List Tern). get_or l o Unk) ends.shows.outputs);
  state = λ none. one_difference (good_state frame) j v ∙ sym ends.shows.next;
  known = arrived_known frame fault number (AtLatch j v) ends;
}
arrived_graded frame fault number (AtOutput o v) ends not_stem =
    let shown = frame_outputs frame.circuit (tern_rules None) frame.vector frame.latches in
    let long = outputs_long frame.circuit (tern_rules None) frame.vector frame.latches in
    let here : faulty_output frame (from_good frame fault) o ≡ v =
    ap (λ (l : List Tern). get_or l o Unk) ends.shows.outputs
    ∙ get_or-set_same shown o v Unk (omega (arith, ends.within, long)) in
    record {
      seen = seen_only frame (from_good frame fault) number (length frame.circuit.outputs) o
          (are_opposite (good_output frame o) v) (ap (are_opposite (good_output frame o)) (sym here)) ends.within
          (λ k other. unseen frame (from_good frame fault) k
          (ap (λ (l : List Tern). get_or l k Unk) ends.shows.outputs ∙ get_or-set_other shown o k v Unk other));
      state = λ none. no_differences (good_state frame) ∙ sym ends.shows.next;
      known = arrived_known frame fault number (AtOutput o v) ends;
    }
arrived_graded frame fault number (AtStem x v) ends not_stem = cc

-- ---- two faults that show the same

-- the first place where these outputs show a fault
abbrev SeenBy : GroupView → List Tern → ℕ → ℕ → Option Place → Type 0
SeenBy frame outputs number n place =
    MatchOption place ((o : ℕ) → o < n → ¬ Opposite (good_output frame o) (get_or outputs o Unk))
    (λ p. (p.vector ≡ number) × (p.output < n) × Opposite (good_output frame p.output) (get_or outputs p.output Unk)
    × ((o : ℕ) → o < p.output → ¬ Opposite (good_output frame o) (get_or outputs o Unk)))

graded_alike : (frame : GroupView) (fault other : Fault) (number : ℕ) (grade : Grade)
    → frame_outputs frame.circuit (tern_rules (Some other)) frame.vector frame.latches
    ≡ frame_outputs frame.circuit (tern_rules (Some fault)) frame.vector frame.latches
    → next_state frame.circuit (tern_rules (Some other)) frame.vector frame.latches
    ≡ next_state frame.circuit (tern_rules (Some fault)) frame.vector frame.latches
    → IsGradedFault frame (from_good frame other) number grade
    → IsGradedFault frame (from_good frame fault) number grade
graded_alike frame fault other number grade outputs next graded = record {
  seen = subst (λ (l : List Tern). SeenBy frame l number (length frame.circuit.outputs) grade.verdict) outputs
      graded.seen;
  state = λ none. graded.state none ∙ next;
  known = graded.known;
}

-- faults whose effects end at one place share their grade
pub graded_together : (frame : GroupView) (fault other : Fault) (number : ℕ) (a : Arrival) (was first_was grade : Grade)
    → was ≡ no_grade → first_was ≡ no_grade → EndsAt frame fault a → EndsAt frame other a
    → IsGradedFault frame (machine_from frame other first_was) number grade
    → IsGradedFault frame (machine_from frame fault was) number grade
graded_together frame fault other number a was first_was grade none first_none ends first_ends graded =
    subst (λ (m : FaultyMachine). IsGradedFault frame m number grade) (from_good_is frame fault was none)
    (graded_alike frame fault other number grade (first_ends.shows.outputs ∙ sym ends.shows.outputs)
    (first_ends.shows.next ∙ sym ends.shows.next)
    (subst (λ (m : FaultyMachine). IsGradedFault frame m number grade)
    (sym (from_good_is frame other first_was first_none))
    graded))

-- ---- where effects end depends on the circuit, the vector and the latches alone

ends_beside : (g : GroupView) (ms : List FaultyMachine) (b : Bool) (fault : Fault) (a : Arrival) → EndsAt g fault a
    → EndsAt (record g { machines = ms; settled = b }) fault a
ends_beside g ms b fault a h = record { shows = h.shows; within = h.within }

-- an effect in one frame is one in another
pub ends_in : (g frame : GroupView) (fault : Fault) (a : Arrival) → g.circuit ≡ frame.circuit → g.vector ≡ frame.vector
    → g.latches ≡ frame.latches → EndsAt g fault a → EndsAt frame fault a
ends_in g frame fault a c v l h =
    subst (λ (f : GroupView). EndsAt f fault a) (same_frame g frame c v l)
    (ends_beside g frame.machines frame.settled fault a h)
