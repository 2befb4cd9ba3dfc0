-- The machines of a word, one output and one flip-flop of a frame after the other.
use Rattle.std.proofs.Common.{◌≡◌, ◌<◌, ◌≤◌, ◌+◌, ◌-◌, ◌*◌, ◌∙◌, ◌++◌, ◌∷◌, ℕ, List, [], true, false, Option, Some, None, inl, inr, length, get_or, refl, sym, ap, subst, arith, length-append}
use Rattle.std.specs.List.{slice_get}
use Rattle.std.specs.Option.{option_or}
use Rattle.std.proofs.lemmas.Bool.{cases_eq}
use Rattle.std.proofs.lemmas.List.{get_or_append_left}
use Rattle.std.proofs.Math.Seq.{get_or-append_seam}
use Rattle.std.proofs.lemmas.Option.{get_or_from_slice_get, slice_get-get_or, slice_get_within}
use Rattle.ht_tern.specs.declared.tern.Tern.{Tern}
use Rattle.ht_net.specs.declared.fault.Fault.{Fault}
use Rattle.ht_net.specs.Circuit.Netlist.{Netlist}
use Rattle.ht_net.specs.Frames.Faults.{tern_rules}
use Rattle.ht_net.proofs.FrameLaws.{le_or_lt}
use Rattle.ht_lanes.specs.Lanes.{Lanes, lane}
use Rattle.ht_faults.specs.Classes.{fault_at}
use Rattle.ht_group.specs.declared.diffs.Diff.{Diff}
use Rattle.ht_group.specs.Differences.{with_differences}
use Rattle.ht_group.specs.GroupView.{FaultyMachine, GroupView, faulty_next, faulty_output, good_next, good_output, lane_count}
use Rattle.ht_proofs.specs.declared.grade.Grade.{Grade}
use Rattle.ht_proofs.proofs.DiffLaws.{HoldsBelow, holds_all, holds_more, holds_none}
use Rattle.ht_causes.specs.declared.track.Track.{Track}
use Rattle.ht_causes.specs.Compared.{latch_place, output_place}
use Rattle.ht_causes.specs.Kept.{AreLatchesCompared}
use Rattle.ht_causes.specs.Tracks.{AreAdded, AreLatchesShown, HaveNoted, AreOutputsShown, AreRun, IsShown, track_state, lead_machine, no_track, track_at, latch_kept, output_kept}
use Rattle.ht_causes.proofs.KeptLaws.{latch_more, no_latches, no_outputs, output_more}

-- a machine of a group has a lane
lane_of_machine : (g : GroupView) (count k : ℕ) (m : FaultyMachine) → length g.machines ≡ count
    → slice_get g.machines k ≡ Some m → k < count
lane_of_machine g count k m is has = let inside = slice_get_within g.machines k m has in omega (arith, inside, is)

-- a machine of the first word
pub first_word : (g : GroupView) (k : ℕ) (m : FaultyMachine) → slice_get g.machines k ≡ Some m
    → slice_get g.machines (lane_count * 0 + k) ≡ Some m
first_word g k m has = ap (slice_get g.machines) (let e : lane_count * 0 + k ≡ k = omega arith in e) ∙ has

-- ---- outputs

pub outputs_none : (g : GroupView) (t from count : ℕ) (tracks : List Track)
    → AreOutputsShown g t 0 from count tracks tracks
outputs_none g t from count tracks = record {
  same_length = refl;
  each = λ k m has. no_outputs t (good_output g) (faulty_output g m) (track_at tracks (from + k)).kept;
  diffs = λ k less. refl;
  before = λ i less. refl;
  after = λ i past. refl;
}

pub outputs_more : (g : GroupView) (t o from count : ℕ) (good : Tern) (word : Lanes) (old mid new : List Track)
    → length g.machines ≡ count → good ≡ good_output g o
    → ((k : ℕ) (m : FaultyMachine) → slice_get g.machines k ≡ Some m → lane word k ≡ faulty_output g m o)
    → HaveNoted from count (λ k. output_kept (output_place t o) good (lane word k)) mid new
    → AreOutputsShown g t o from count old mid → AreOutputsShown g t (o + 1) from count old new
outputs_more g t o from count good word old mid new machines is tells noted so_far = record {
  same_length = noted.same_length ∙ so_far.same_length;
  each = λ k m has.
      output_more t o (good_output g) (faulty_output g m) (track_at old (from + k)).kept (track_at mid (from + k)).kept
      (track_at new (from + k)).kept good (lane word k) (so_far.each k m has)
      (ap (λ (x : Track). x.kept) (noted.each k (lane_of_machine g count k m machines has))) is (tells k m has);
  diffs = λ k less. ap (λ (x : Track). x.diffs) (noted.each k less) ∙ so_far.diffs k less;
  before = λ i less. noted.before i less ∙ so_far.before i less;
  after = λ i past. noted.after i past ∙ so_far.after i past;
}

-- ---- flip-flops

-- what is kept of a machine as a grade of a fault that is not detected
abbrev pub held_of : Track → Grade
held_of track = record { verdict = None; diffs = track.diffs }

-- The flip-flops below n were compared after vector t, and hold what is kept.
pub record AreLatchesBelow (g : GroupView) (t n from count : ℕ) (old new : List Track) : Type 0 where
  pub same_length : length new ≡ length old
  pub each : (k : ℕ) (m : FaultyMachine) → slice_get g.machines k ≡ Some m
      → AreLatchesCompared t n (good_next g) (faulty_next g m) (track_at old (from + k)).kept
      (track_at new (from + k)).kept
  pub held : (k : ℕ) (m : FaultyMachine) → slice_get g.machines k ≡ Some m
      → HoldsBelow g m None n (held_of (track_at new (from + k)))
  pub before : (i : ℕ) → i < from → track_at new i ≡ track_at old i
  pub after : (i : ℕ) → from + count ≤ i → track_at new i ≡ track_at old i

pub latches_none : (g : GroupView) (t from count : ℕ) (tracks : List Track) → length g.machines ≡ count
    → ((k : ℕ) → k < count → (track_at tracks (from + k)).diffs ≡ [])
    → AreLatchesBelow g t 0 from count tracks tracks
latches_none g t from count tracks machines empty = record {
  same_length = refl;
  each = λ k m has. no_latches t (good_next g) (faulty_next g m) (track_at tracks (from + k)).kept;
  held = λ k m has.
      holds_none g m (held_of (track_at tracks (from + k))) (empty k (lane_of_machine g count k m machines has));
  before = λ i less. refl;
  after = λ i past. refl;
}

pub latches_more : (g : GroupView) (t j from count : ℕ) (good : Tern) (word : Lanes) (old mid new : List Track)
    → length g.machines ≡ count → good ≡ good_next g j
    → ((k : ℕ) (m : FaultyMachine) → slice_get g.machines k ≡ Some m → lane word k ≡ faulty_next g m j)
    → HaveNoted from count (λ k. latch_kept (latch_place t j) good (lane word k)) mid new
    → AreLatchesBelow g t j from count old mid → AreLatchesBelow g t (j + 1) from count old new
latches_more g t j from count good word old mid new machines is tells noted so_far = record {
  same_length = noted.same_length ∙ so_far.same_length;
  each = λ k m has.
      latch_more t j (good_next g) (faulty_next g m) (track_at old (from + k)).kept (track_at mid (from + k)).kept
      (track_at new (from + k)).kept good (lane word k) (so_far.each k m has)
      (ap (λ (x : Track). x.kept) (noted.each k (lane_of_machine g count k m machines has))) is (tells k m has);
  held = λ k m has.
      subst (λ (d : List Diff). HoldsBelow g m None (j + 1) (record { verdict = None; diffs = d }))
      (sym (ap (λ (x : Track). x.diffs) (noted.each k (lane_of_machine g count k m machines has))))
      (holds_more g m None j good (lane word k) (held_of (track_at mid (from + k))) is (tells k m has)
      (so_far.held k m has));
  before = λ i less. noted.before i less ∙ so_far.before i less;
  after = λ i past. noted.after i past ∙ so_far.after i past;
}

pub latches_all : (g : GroupView) (t n from count : ℕ) (old new : List Track) → n ≡ length g.circuit.dffs
    → AreLatchesBelow g t n from count old new → AreLatchesShown g t n from count old new
latches_all g t n from count old new done so_far = record {
  same_length = so_far.same_length;
  each = so_far.each;
  held = λ k m has. holds_all g m None n (held_of (track_at new (from + k))) done (so_far.held k m has);
  before = so_far.before;
  after = so_far.after;
}

-- ---- machines that are added

pub added_none : (g : GroupView) (tracks : List Track) (leads : List ℕ) (from : ℕ) → g.machines ≡ []
    → AreAdded g.circuit g.vector g.latches tracks leads from 0 g
added_none g tracks leads from none = record {
  circuit = refl;
  vector_same = refl;
  latches_same = refl;
  count = ap (λ (l : List FaultyMachine). length l) none;
  each = λ k less. absurd (omega arith);
}

pub added_more : (c : Netlist) (vector good : List Tern) (tracks : List Track) (leads : List ℕ) (from n : ℕ)
    (g new : GroupView) (fault : Fault) (diffs : List Diff) → fault ≡ fault_at c (get_or leads (from + n) 0)
    → diffs ≡ (track_at tracks (get_or leads (from + n) 0)).diffs
    → new ≡ record g {
      machines = g.machines ++ (record { fault = fault; latches = with_differences g.latches diffs }) ∷ [];
      settled = false;
    }
    → AreAdded c vector good tracks leads from n g → AreAdded c vector good tracks leads from (n + 1) new
added_more c vector good tracks leads from n g new fault diffs is held pushed so_far = record {
  circuit = ap (λ (x : GroupView). x.circuit) pushed ∙ so_far.circuit;
  vector_same = ap (λ (x : GroupView). x.vector) pushed ∙ so_far.vector_same;
  latches_same = ap (λ (x : GroupView). x.latches) pushed ∙ so_far.latches_same;
  count =
      ap (λ (x : GroupView). length x.machines) pushed
      ∙ (length-append g.machines (one ∷ []) ∙ ap (λ k. k + 1) so_far.count);
  each = λ k less.
      ap (λ (x : GroupView). slice_get x.machines k) pushed
      ∙ (slice_get-get_or (g.machines ++ one ∷ []) k one
      (omega (arith, less, length-append g.machines (one ∷ []), so_far.count))
      ∙ elim (cases_eq k n) [
        | inl last ↦
            ap (λ (j : ℕ). Some (get_or (g.machines ++ one ∷ []) j one)) (last ∙ sym so_far.count)
            ∙ (ap Some (get_or-append_seam g.machines one [] one)
            ∙ (ap Some one_is
            ∙ ap (λ (j : ℕ). Some (lead_machine c good tracks (get_or leads (from + j) 0))) (sym last)))
        | inr other ↦
            let below : k < n = omega (arith, less, other) in
            ap Some (get_or_append_left g.machines (one ∷ []) one k (omega (arith, below, so_far.count))
            ∙ get_or_from_slice_get g.machines k (lead_machine c good tracks (get_or leads (from + k) 0)) one
            (so_far.each k below))
      ]);
}
  where
    one : FaultyMachine
    one = record { fault = fault; latches = with_differences g.latches diffs }

    one_is : one ≡ lead_machine c good tracks (get_or leads (from + n) 0)
    one_is = (λ i. record { fault = is i; latches = with_differences (so_far.latches_same i) (held i) })

-- ---- a word

-- the second of two, where the first is not there
from_none : {X : Type 0} {q a b : Option X} → q ≡ option_or a b → a ≡ None → q ≡ b
from_none {X} {q} {a} {b} is none = is ∙ ap (λ (x : Option X). option_or x b) none

-- what a machine of a group shows, from a lane that was empty
lane_shown : (g : GroupView) (t from count k : ℕ) (m : FaultyMachine) (old mid new : List Track)
    → slice_get g.machines k ≡ Some m → track_at old (from + k) ≡ no_track
    → AreOutputsShown g t (length g.circuit.outputs) from count old mid
    → AreLatchesShown g t (length g.circuit.dffs) from count mid new
    → IsShown g.circuit g.vector g.latches (tern_rules (Some m.fault)) m.latches t (track_at new (from + k))
lane_shown g t from count k m old mid new has empty outputs latches =
    let first = outputs.each k m has in
    let second = latches.each k m has in
    let held = latches.held k m has in
    record {
      detected = second.detected ∙ from_none first.detected (ap (λ (x : Track). x.kept.detected) empty);
      possible = second.possible ∙ from_none first.possible (ap (λ (x : Track). x.kept.possible) empty);
      stored = from_none second.stored (first.stored ∙ ap (λ (x : Track). x.kept.stored) empty);
      state = held.state refl;
      known = held.known;
    }

-- in a frame by its parts
in_frame : (g : GroupView) (c : Netlist) (vector good : List Tern) (m : FaultyMachine) (t : ℕ) (track : Track)
    → g.circuit ≡ c → g.vector ≡ vector → g.latches ≡ good
    → IsShown g.circuit g.vector g.latches (tern_rules (Some m.fault)) m.latches t track
    → IsShown c vector good (tern_rules (Some m.fault)) m.latches t track
in_frame g c vector good m t track circuit v l shown =
    subst (λ (n : Netlist). IsShown n vector good (tern_rules (Some m.fault)) m.latches t track) circuit
    (subst (λ (w : List Tern). IsShown g.circuit w good (tern_rules (Some m.fault)) m.latches t track) v
    (subst (λ (w : List Tern). IsShown g.circuit g.vector w (tern_rules (Some m.fault)) m.latches t track) l shown))

-- the machines of one word more have run
pub word_run : (c : Netlist) (vector good : List Tern) (tracks : List Track) (leads : List ℕ) (t from count : ℕ)
    (added g : GroupView) (old mid new : List Track)
    → AreAdded c vector good tracks leads from count added → g ≡ record added { settled = true }
    → AreOutputsShown g t (length c.outputs) from count old mid
    → AreLatchesShown g t (length c.dffs) from count mid new
    → AreRun c vector good tracks leads t from old → AreRun c vector good tracks leads t (from + count) new
word_run c vector good tracks leads t from count added g old mid new machines settled outputs latches so_far = record {
  count = latches.same_length ∙ (outputs.same_length ∙ so_far.count);
  each = λ l less. elim (le_or_lt from l) [
    | inl past ↦
        let k = l - from in
        let at : from + k ≡ l = omega arith in
        subst LaneShown at (here k (omega arith))
    | inr earlier ↦
        subst (IsShown c vector good (tern_rules (Some (fault_at c (get_or leads l 0))))
        (track_state good (track_at tracks (get_or leads l 0))) t)
        (sym (latches.before l earlier ∙ outputs.before l earlier)) (so_far.each l earlier)
  ];
  later = λ l past. latches.after l past ∙ (outputs.after l past ∙ so_far.later l (omega arith));
}
  where
    LaneShown : ℕ → Type 0
    LaneShown l = IsShown c vector good (tern_rules (Some (fault_at c (get_or leads l 0))))
        (track_state good (track_at tracks (get_or leads l 0))) t (track_at new l)

    circuit : g.circuit ≡ c
    circuit = ap (λ (x : GroupView). x.circuit) settled ∙ machines.circuit

    here : (k : ℕ) → k < count → LaneShown (from + k)
    here k less =
        let m = lead_machine c good tracks (get_or leads (from + k) 0) in
        let has : slice_get g.machines k ≡ Some m =
        ap (λ (x : GroupView). slice_get x.machines k) settled ∙ machines.each k less in
        in_frame g c vector good m t (track_at new (from + k)) circuit
        (ap (λ (x : GroupView). x.vector) settled ∙ machines.vector_same)
        (ap (λ (x : GroupView). x.latches) settled ∙ machines.latches_same)
        (lane_shown g t from count k m old mid new has (so_far.later (from + k) (omega arith))
        (subst (λ (n : Netlist). AreOutputsShown g t (length n.outputs) from count old mid) (sym circuit) outputs)
        (subst (λ (n : Netlist). AreLatchesShown g t (length n.dffs) from count mid new) (sym circuit) latches))
