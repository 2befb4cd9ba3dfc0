-- A list that the search of a window finds: it ends in a frame of the window, and its last vector shows a difference.
use Rattle.std.proofs.Common.{◌≡◌, ◌<◌, ◌≤◌, ◌+◌, ◌-◌, ℕ, List, [], Bool, true, length, refl, sym, ◌∙◌, ap, subst, arith}
use Rattle.ht_tern.specs.declared.tern.Tern.{Tern}
use Rattle.ht_net.specs.declared.fault.Fault.{Fault}
use Rattle.ht_net.specs.Detect.Detection.{Detects}
use Rattle.ht_net.specs.Circuit.Netlist.{Netlist}
use Rattle.ht_net.specs.Frames.Rows.{Rows}
use Rattle.ht_tree.specs.declared.token.Assign3.{Assign3}
use Rattle.ht_tree.specs.declared.window.Spot.{Spot}
use Rattle.ht_tree.specs.declared.window.Status.TheVariants.{Sure}
use Rattle.ht_tree.specs.Walk.Counts.{seeks_difference}
use Rattle.ht_tree.specs.Walk.FoundLists.{list_of}
use Rattle.ht_tree.specs.Window.Places.{state_places}
use Rattle.ht_tree.specs.Record.Reached.{AreVectors, IsTernState, ShowsFrom}
use Rattle.ht_tree.specs.Walk.Searches.{node_at}
use Rattle.ht_tree.specs.Window.WindowStatus.{difference_status, status_at, status_from}
use Rattle.ht_tree.specs.Window.Windows.{SearchWindow, Start, back, forward_window, one_frame, state_pair, sweep_window, token_weight, unknown}
use Rattle.ht_records.proofs.FoundDifferenceLaws.{found_forward, found_sweep}
use Rattle.ht_records.proofs.SpotLaws.{output_place, sure_place}
use Rattle.ht_records.proofs.SureLaws.{list_length}
use Rattle.ht_records.proofs.WindowVectorLaws.{list_wide}
use Rattle.ht_forward.specs.AheadSearches.{FindsList, IsListWithin}

by_difference : (w : SearchWindow) (path : List Assign3) (s : Start) → seeks_difference s ≡ true
    → status_from w path s ≡ difference_status w path
by_difference w path (one_frame z) h = refl
by_difference w path unknown h = refl
by_difference w path (state_pair good faulty) h = refl
by_difference w path (back cube limit) h = cc

-- the first sure place is in a frame of the window
pub frame_known : (w : SearchWindow) (path : List Assign3) (frame : ℕ) (spot : Spot)
    → seeks_difference w.start ≡ true → state_places w.circuit w.start ≡ [] → status_at w path ≡ Sure frame spot
    → frame < w.frames
frame_known w path frame spot seeks outputs sure =
    let first = sure_place w path frame spot (sym (by_difference w path w.start seeks) ∙ sure) in
    (output_place w outputs (record { frame = frame; spot = spot }) first.0).inside

module _ (w : SearchWindow) (budget : ℕ) (list : Rows) (h : FindsList w budget list) where
  -- the vectors of the list are those that the path decides, up to the sure frame
  pub vectors_are : list.list ≡ list_of w.circuit h.path (h.frame + 1)
  vectors_are = ap (λ (r : Rows). r.list) h.listed

  -- the list has a vector for each frame up to the sure one
  pub frames_are : length list.list ≡ h.frame + 1
  frames_are = ap (λ (vs : List (List Bool)). length vs) vectors_are ∙ list_length w.circuit h.path (h.frame + 1)

  -- the list has at least 1 vector and at most as many as the window has frames, each with a bit for each input
  pub found_within : (most : ℕ) → w.frames ≤ most → IsListWithin w.circuit most list
  found_within most few =
      let long = frames_are in
      let known = h.known in
      record {
        some = omega (arith, long);
        few = omega (arith, long, known, few);
        wide = subst (λ (vs : List (List Bool)). AreVectors w.circuit vs) (sym vectors_are)
            (list_wide w.circuit h.path (h.frame + 1));
        width = ap (λ (r : Rows). r.width) h.listed;
      }

  -- what the vectors of its decisions show in the sure frame, its last vector does
  pub last_shows : (Shows : List (List Bool) → ℕ → Type 0)
      → Shows (list_of w.circuit h.path (h.frame + 1)) h.frame → Shows list.list (length list.list - 1)
  last_shows Shows shown =
      let long = frames_are in
      let last : h.frame ≡ length list.list - 1 = omega (arith, long) in
      subst (Shows list.list) last (subst (λ (vs : List (List Bool)). Shows vs h.frame) (sym vectors_are) shown)

module _ (c : Netlist) (fault : Fault) where
  -- the last vector of a list that a sweep's window finds detects the fault
  pub sweep_list_detects : (frames budget : ℕ) (list : Rows) → FindsList (sweep_window c fault frames) budget list
      → (o : ℕ) × Detects c fault list.list (length list.list - 1) o
  sweep_list_detects frames budget list h =
      let w = sweep_window c fault frames in
      let shows = found_sweep c fault frames budget (token_weight w) h.tokens (node_at h.path) h.frame h.spot h.found
      h.sure in
      (shows.0, last_shows w budget list h (λ vs t. Detects c fault vs t shows.0) shows.2)

  -- the last vector of a list that a forward window finds shows the difference of its states at an output
  pub forward_list_shows : (frames : ℕ) (good faulty : List Tern) (budget : ℕ) (list : Rows)
      → IsTernState c good → IsTernState c faulty → FindsList (forward_window c fault frames good faulty) budget list
      → (o : ℕ) × ShowsFrom c fault good faulty list.list (length list.list - 1) o
  forward_list_shows frames good faulty budget list held held' h =
      let w = forward_window c fault frames good faulty in
      let shows = found_forward c fault frames good faulty budget (token_weight w) h.tokens (node_at h.path) h.frame
      h.spot held held' h.found h.sure in
      (shows.0, last_shows w budget list h (λ vs t. ShowsFrom c fault good faulty vs t shows.0) shows.2)
