-- The status of a window in which a difference is looked for, from what its frames show.
use Rattle.std.proofs.Common.{◌≡◌, ◌<◌, ◌≤◌, ◌+◌, ◌*◌, ℕ, List, [], ◌++◌, map, Option, true, length, get_or, refl, sym, ◌∙◌, ap, arith}
use Rattle.std.specs.Prelude.{flat_map}
use Rattle.std.specs.List.{range_with_len}
use Rattle.ht_tern.specs.declared.tern.Tern.{Tern}
use Rattle.ht_pairs.specs.Pairs.{Pair}
use Rattle.ht_net.specs.Frames.Frame.{data_values, values_at}
use Rattle.ht_net.proofs.ValueLaws.{seen_get, taken_get}
use Rattle.ht_tree.specs.declared.token.Assign3.{Assign3}
use Rattle.ht_tree.specs.declared.window.Spot.{Spot}
use Rattle.ht_tree.specs.declared.window.Spot.TheVariants.{Output, State, Cube}
use Rattle.ht_tree.specs.Walk.Counts.{seeks_difference}
use Rattle.ht_tree.specs.Window.Places.{IsSpot, set_at, spot_net}
use Rattle.ht_tree.specs.Window.Windows.{Start, one_frame, unknown, state_pair, back, SearchWindow, IsStart, pair_set_rules, first_latches, latches_at, cell_at}
use Rattle.ht_tree.specs.Window.WindowStatus.{status_from, status_at, difference_status, without_place}
use Rattle.ht_tree.proofs.BeginLaws.{some_frame}
use Rattle.ht_recompute.specs.declared.differences.Differences.{Differences}
use Rattle.ht_recompute.specs.declared.window_start.WindowStart.{WindowStart}
use Rattle.ht_recompute.specs.declared.window_start.WindowStart.TheVariants.{OneFrame, Unknown, States, Back}
use Rattle.ht_recompute.specs.Written.{IsWritten}
use Rattle.ht_recompute.specs.Differences.{differences_in, in_either, status_by}
use Rattle.ht_recompute.specs.WindowStarts.{IsStartOf, window_start, first_latch_by, latches_by, state_sets}
use Rattle.ht_recompute.specs.FrameSetsOf.{FrameState, frame_after, inputs_by, latches_after, outputs_of_frame, set_in}
use Rattle.ht_recompute.proofs.DifferenceLaws.{differences_append}
use Rattle.ht_recompute.proofs.RecomputedLaws.{map_same, first_are, latches_are, outputs_are, outputs_flat, next_latches}
use Rattle.ht_recompute.proofs.FrameSetLaws.{ran_frame}
use Rattle.ht_recompute.proofs.PlaceLaws.{shown_in, status_shown}

seeking : (w : SearchWindow) (path : List Assign3) (s : Start) → seeks_difference s ≡ true
    → status_from w path s ≡ difference_status w path
seeking w path (one_frame z) h = refl
seeking w path unknown h = refl
seeking w path (state_pair good faulty) h = refl
seeking w path (back cube limit) h = cc

-- A window whose decisions are written, and a frame with its first latches.
module _ (w : SearchWindow) (path : List Assign3) (decisions : List (Option Tern)) (start : WindowStart)
    (fits : IsStart w.circuit w.fault w.frames (window_start start)) (begins : w.start ≡ window_start start)
    (is : IsStartOf start (length w.circuit.dffs)) (written : IsWritten decisions path)
    (room : w.frames * w.circuit.inputs + 2 * length w.circuit.dffs ≤ length decisions) (s : FrameState)
    (circuit : s.circuit ≡ w.circuit) (fault : s.fault ≡ w.fault)
    (latches : s.latches ≡ latches_by start decisions w.circuit) where
  some : 0 < w.frames
  some = some_frame w.circuit w.fault w.frames (window_start start) fits

  first : s.latches ≡ first_latches w path
  first = latches ∙
      ((λ i. map (first_latch_by (sym begins i) decisions w.circuit.inputs (length w.circuit.dffs))
      (range_with_len 0 (length w.circuit.dffs)))
      ∙ first_are w path decisions written room some)

  -- after one frame the latches are the next states
  pub next_are : w.frames ≡ 1 → latches_after s decisions w.frames
      ≡ data_values (pair_set_rules w.fault) (cell_at w path 0) 0 w.circuit.dffs
  next_are one =
      latches_are w path decisions written room s circuit fault first w.frames (omega arith)
      ∙ (ap (latches_at w path) one ∙ next_latches w path)

  states_are : (next : List (List Pair)) → next ≡ latches_after s decisions w.frames
      → state_sets start next
      ≡ state_sets start (data_values (pair_set_rules w.fault) (cell_at w path 0) 0 w.circuit.dffs)
  states_are next e = by start fits
    where
      by : (t : WindowStart) → IsStart w.circuit w.fault w.frames (window_start t) → state_sets t next
          ≡ state_sets t (data_values (pair_set_rules w.fault) (cell_at w path 0) 0 w.circuit.dffs)
      by (OneFrame z marks) one = ap (state_sets (OneFrame z marks)) (e ∙ next_are one)
      by Unknown h = refl
      by (States good faulty) h = refl
      by (Back cube limit) h = refl

  -- the status by what the outputs and the next states show is the status of the window at the path
  pub difference_is : seeks_difference w.start ≡ true → (shown states : Differences) (next : List (List Pair))
      → shown ≡ differences_in (flat_map (outputs_of_frame s decisions) (range_with_len 0 w.frames))
      → next ≡ latches_after s decisions w.frames → states ≡ differences_in (state_sets start next)
      → status_by (in_either shown states) ≡ without_place (status_at w path)
  difference_is seeks shown states next a b d =
      let taken = data_values (pair_set_rules w.fault) (cell_at w path 0) 0 w.circuit.dffs in
      let outs = outputs_flat w path decisions written room s circuit fault first in
      let places = flat_map (shown_in w path) (range_with_len 0 w.frames) in
      let both : in_either shown states ≡ differences_in (places ++ state_sets start taken) =
      (λ i. in_either (a i) (d i))
      ∙ (differences_append (flat_map (outputs_of_frame s decisions) (range_with_len 0 w.frames))
      (state_sets start next)
      ∙ (λ i. differences_in (outs i ++ states_are next b i))) in
      ap status_by both
      ∙ (status_shown w path start begins is ∙ ap without_place (sym (seeking w path w.start seeks)))

  -- after the frame of a window of one frame each place holds its set
  pub place_is : w.frames ≡ 1 → (new : FrameState) → new ≡ frame_after s (inputs_by decisions 0 s.circuit.inputs)
      → (p : Spot) → IsSpot w.circuit p → set_in new p ≡ set_at w path 0 p
  place_is one new is_ran p known =
      let at : 0 ≡ 0 * s.circuit.inputs = omega arith in
      let after = ran_frame s s new decisions 0 0 refl refl refl at is_ran in
      let outputs = after.outputs ∙ outputs_are w path decisions written room s circuit fault first 0 some in
      let latches = after.latches
      ∙ (latches_are w path decisions written room s circuit fault first 1 some ∙ next_latches w path) in
      by outputs latches p known
    where
      by : new.outputs ≡ values_at (cell_at w path 0) w.circuit.outputs
          → new.latches ≡ data_values (pair_set_rules w.fault) (cell_at w path 0) 0 w.circuit.dffs
          → (p : Spot) → IsSpot w.circuit p → set_in new p ≡ set_at w path 0 p
      by outputs latches (Output o) l = ap (λ (t : List (List Pair)). get_or t o []) outputs
          ∙ seen_get (cell_at w path 0) w.circuit.outputs o [] l
      by outputs latches (State j) l =
          let at : 0 + j ≡ j = omega arith in
          ap (λ (t : List (List Pair)). get_or t j []) latches
          ∙ (taken_get (pair_set_rules w.fault) (cell_at w path 0) 0 w.circuit.dffs j [] l
          ∙ ap (λ (n : ℕ). (pair_set_rules w.fault).data_pin n (cell_at w path 0 (spot_net w.circuit (State j)))) at)
      by outputs latches Cube l = refl

-- after the frame of a window that looks for a cube the latches are its next states
pub cube_next : (w : SearchWindow) (path : List Assign3) (decisions : List (Option Tern)) (start : WindowStart)
    (cube given : List Tern) (left limit : ℕ) → w.start ≡ back cube left → window_start start ≡ back given limit
    → w.frames ≡ 1 → IsWritten decisions path
    → w.frames * w.circuit.inputs + 2 * length w.circuit.dffs ≤ length decisions → (s new : FrameState)
    → s.circuit ≡ w.circuit → s.fault ≡ w.fault → s.latches ≡ latches_by start decisions w.circuit
    → new ≡ frame_after s (inputs_by decisions 0 s.circuit.inputs)
    → new.latches ≡ data_values (pair_set_rules w.fault) (cell_at w path 0) 0 w.circuit.dffs
cube_next w path decisions start cube given left limit begins is one written room s new circuit fault latches ran =
    let some : 0 < w.frames = omega (arith, one) in
    let by : Start → List (List Pair) =
    λ t. map (first_latch_by t decisions w.circuit.inputs (length w.circuit.dffs))
    (range_with_len 0 (length w.circuit.dffs)) in
    let same : by (back given limit) ≡ by (back cube left) =
    map_same (first_latch_by (back given limit) decisions w.circuit.inputs (length w.circuit.dffs))
    (first_latch_by (back cube left) decisions w.circuit.inputs (length w.circuit.dffs)) 0 (length w.circuit.dffs) []
    (λ k l. refl) in
    let first : s.latches ≡ first_latches w path =
    latches ∙ (ap by is ∙ (same ∙ (ap by (sym begins) ∙ first_are w path decisions written room some))) in
    let at : 0 ≡ 0 * s.circuit.inputs = omega arith in
    (ran_frame s s new decisions 0 0 refl refl refl at ran).latches
    ∙ (latches_are w path decisions written room s circuit fault first 1 some ∙ next_latches w path)
