-- A window's arrays hold what its definitions say at a path.
use Rattle.std.proofs.Common.{◌≡◌, ◌<◌, ◌≤◌, ◌+◌, ◌*◌, ℕ, suc, zero, List, [], ◌++◌, Option, None, map, length, get_or, refl, ◌∙◌, ap, arith}
use Rattle.std.specs.Prelude.{flat_map}
use Rattle.std.specs.List.{range_with_len}
use Rattle.std.proofs.Math.Nat.{mul-le-mul_right, suc-mul}
use Rattle.std.proofs.lemmas.List.FromFn.{length-map-range_with_len, get_or-map-range_with_len}
use Rattle.ht_tern.specs.declared.tern.Tern.{Tern}
use Rattle.ht_pairs.specs.Pairs.{pair}
use Rattle.ht_pairs.specs.Decided.{same_pairs}
use Rattle.ht_net.specs.Frames.Frame.{values_at, data_values, frame_outputs, next_state}
use Rattle.ht_tree.specs.declared.token.Assign3.{Assign3}
use Rattle.ht_tree.specs.Window.Decisions.{is_in, latch_values_left, latch_pairs}
use Rattle.ht_tree.specs.Window.Windows.{Start, one_frame, unknown, state_pair, back, SearchWindow, pair_set_rules, input_set, frame_inputs, first_latch, first_latches, latches_at, cell_at}
use Rattle.ht_tree.proofs.MemberLaws.{listed_by}
use Rattle.ht_recompute.specs.Written.{IsWritten}
use Rattle.ht_recompute.specs.WindowStarts.{first_latch_by}
use Rattle.ht_recompute.specs.FrameSetsOf.{FrameState, inputs_by, latches_after, outputs_of_frame}

-- a list by number whose items are equal
pub map_same : {V : Type 0} → (f g : ℕ → V) (i n : ℕ) (d : V) → ((k : ℕ) → k < n → f (i + k) ≡ g (i + k))
    → map f (range_with_len i n) ≡ map g (range_with_len i n)
map_same f g i n d h =
    listed_by g i n (map f (range_with_len i n)) d (length-map-range_with_len f i n)
    (λ k l. get_or-map-range_with_len f i n k (i + k) d l refl ∙ h k l)

-- lists by number that are equal for each number are equal joined
pub flat_same : {V : Type 0} → (f g : ℕ → List V) (i n : ℕ) → ((k : ℕ) → k < i + n → f k ≡ g k)
    → flat_map f (range_with_len i n) ≡ flat_map g (range_with_len i n)
flat_same f g i zero h = refl
flat_same f g i (suc n) h =
    let here = h i (omega arith) in
    let rest = flat_same f g (i + 1) n (λ k l. h k (omega (arith, l))) in
    (λ k. here k ++ rest k)

module _ (w : SearchWindow) (path : List Assign3) (decisions : List (Option Tern)) (written : IsWritten decisions path)
    (room : w.frames * w.circuit.inputs + 2 * length w.circuit.dffs ≤ length decisions) where
  inputs_are : (f : ℕ) → f < w.frames → inputs_by decisions (f * w.circuit.inputs) w.circuit.inputs
      ≡ frame_inputs w path f
  inputs_are f inside =
      let n = w.circuit.inputs in
      let more = suc-mul f n in
      let le : suc f * n ≤ w.frames * n = mul-le-mul_right n (omega arith) in
      map_same (λ var. same_pairs (get_or decisions var None)) (input_set path) (f * n) n []
      (λ k l. ap same_pairs (written (f * n + k) (omega (arith, more, le, room, l))))

  -- the first latches
  module _ (some : 0 < w.frames) where
    below : (k : ℕ) → k < w.circuit.inputs + 2 * length w.circuit.dffs → k < length decisions
    below k l =
        let n = w.circuit.inputs in
        let le : 1 * n ≤ w.frames * n = mul-le-mul_right n some in
        omega (arith, le, room, l)

    latch_is : (s : Start) (j : ℕ) → j < length w.circuit.dffs
        → first_latch_by s decisions w.circuit.inputs (length w.circuit.dffs) j ≡ first_latch w s path j
    latch_is (one_frame z) j l =
        let good = written (w.circuit.inputs + j) (below _ (omega (arith, l))) in
        let faulty = written (w.circuit.inputs + length w.circuit.dffs + j) (below _ (omega (arith, l))) in
        (λ i. latch_pairs (is_in z j) (good i) (faulty i))
    latch_is unknown j l = refl
    latch_is (state_pair good faulty) j l = refl
    latch_is (back cube limit) j l =
        let good = written (w.circuit.inputs + j) (below _ (omega (arith, l))) in
        (λ i. map (λ v. pair v v) (latch_values_left (good i)))

    -- the first latches by the decisions that were written are those of the window at the path
    pub first_are : map (first_latch_by w.start decisions w.circuit.inputs (length w.circuit.dffs))
        (range_with_len 0 (length w.circuit.dffs)) ≡ first_latches w path
    first_are =
        map_same (first_latch_by w.start decisions w.circuit.inputs (length w.circuit.dffs))
        (first_latch w w.start path) 0 (length w.circuit.dffs) [] (λ j l. latch_is w.start (0 + j) (omega (arith, l)))

  -- frame by frame
  module _ (s : FrameState) (circuit : s.circuit ≡ w.circuit) (fault : s.fault ≡ w.fault)
      (latches : s.latches ≡ first_latches w path) where
    -- the latches before frame f by the decisions that were written are those of the window at the path
    pub latches_are : (f : ℕ) → f ≤ w.frames → latches_after s decisions f ≡ latches_at w path f
    unfolding latches_at
    latches_are zero l = latches
    latches_are (suc f) l =
        let before = latches_are f (omega (arith, l)) in
        let vector = inputs_are f (omega (arith, l)) in
        (λ i. next_state (circuit i) (pair_set_rules (fault i))
        (inputs_by decisions (f * (circuit i).inputs) (circuit i).inputs) (latches_after s decisions f))
        ∙ (λ i. next_state w.circuit (pair_set_rules w.fault) (vector i) (before i))

    -- the outputs in frame f by the decisions that were written are those of the window at the path
    pub outputs_are : (f : ℕ) → f < w.frames → outputs_of_frame s decisions f
        ≡ values_at (cell_at w path f) w.circuit.outputs
    unfolding frame_outputs
    outputs_are f l =
        let before = latches_are f (omega (arith, l)) in
        let vector = inputs_are f l in
        (λ i. frame_outputs (circuit i) (pair_set_rules (fault i))
        (inputs_by decisions (f * (circuit i).inputs) (circuit i).inputs) (latches_after s decisions f))
        ∙ (λ i. frame_outputs w.circuit (pair_set_rules w.fault) (vector i) (before i))

    -- the outputs in all frames by the decisions that were written are those of the window at the path
    pub outputs_flat : flat_map (outputs_of_frame s decisions) (range_with_len 0 w.frames)
        ≡ flat_map (λ f. values_at (cell_at w path f) w.circuit.outputs) (range_with_len 0 w.frames)
    outputs_flat =
        flat_same (outputs_of_frame s decisions) (λ f. values_at (cell_at w path f) w.circuit.outputs) 0 w.frames
        (λ f l. outputs_are f (omega (arith, l)))

-- the latches after one frame are its next states
pub next_latches : (w : SearchWindow) (path : List Assign3) → latches_at w path 1
    ≡ data_values (pair_set_rules w.fault) (cell_at w path 0) 0 w.circuit.dffs
unfolding latches_at next_state
next_latches w path = refl
