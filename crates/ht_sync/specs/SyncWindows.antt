-- The windows in which a list that synchronizes is searched for: frames of the good machine from all-unknown.
use Rattle.std.specs.Prelude.{◌-◌, ℕ, List, [], ◌∷◌, find, Bool, true, not, ◌&&◌, if◌then◌else◌, length, get_or, Option, Some, None}
use Rattle.std.specs.List.{list_any, range_with_len}
use Rattle.ht_tern.specs.declared.tern.Tern.TheVariants.{Unk}
use Rattle.ht_pairs.specs.Pairs.{Pair, is_member, pair}
use Rattle.ht_net.specs.Circuit.Netlist.{Netlist}
use Rattle.ht_tree.specs.declared.token.Assign3.{Assign3}
use Rattle.ht_tree.specs.declared.token.Choice.{Choice}
use Rattle.ht_tree.specs.declared.token.Choice.TheVariants.{Two}
use Rattle.ht_tree.specs.declared.token.Status3.{Status3}
use Rattle.ht_tree.specs.declared.token.Status3.TheVariants.{Dead, Sure, Open}
use Rattle.ht_tree.specs.declared.window.Spot.TheVariants.{State}
use Rattle.ht_tree.specs.Window.Windows.{SearchWindow, is_undetermined, latches_at, unknown}
use Rattle.ht_tree.specs.Window.Places.{spot_net}
use Rattle.ht_tree.specs.Window.WalkBack.{walk_back}
use Rattle.ht_tree.specs.Walk.Searches.{Guide}
use Rattle.ht_forward.specs.Goals.{Goal, goal_in, guide_to}

-- the sweep window of so many frames without a fault
abbrev pub sync_window : Netlist → ℕ → SearchWindow
sync_window c frames = record { circuit = c; fault = None; frames = frames; start = unknown }

-- the flip-flops, the lowest first
abbrev pub flip_flops : Netlist → List ℕ
flip_flops c = range_with_len 0 (length c.dffs)

-- the set of latch j after the last frame
abbrev pub last_set : SearchWindow → List Assign3 → ℕ → List Pair
last_set w path j = get_or (latches_at w path w.frames) j (pair Unk Unk ∷ [])

-- a set holds XX; it holds nothing else
abbrev pub may_be_unknown : List Pair → Bool
may_be_unknown set = is_member (pair Unk Unk) set

-- the net is unknown for certain
abbrev pub must_be_unknown : List Pair → Bool
must_be_unknown set = may_be_unknown set && not (is_undetermined set)

-- Dead where some latch must be unknown after the last frame, Sure where none may be, else Open.
abbrev pub sync_status : SearchWindow → List Assign3 → Status3
sync_status w path =
    if list_any (λ j. must_be_unknown (last_set w path j)) (flip_flops w.circuit) then Dead
    else if list_any (λ j. may_be_unknown (last_set w path j)) (flip_flops w.circuit) then Open else Sure

-- The walk back from the next state of a latch in the last frame, where it wants 1; without such a latch the choice is
-- any.
abbrev pub from_last : SearchWindow → List Assign3 → Option ℕ → Choice
from_last w path None = Two 0 true
from_last w path (Some j) = walk_back w path (w.frames - 1) (spot_net w.circuit (State j)) true

-- the lowest latch whose set after the last frame is undetermined
abbrev pub sync_choice : SearchWindow → List Assign3 → Choice
sync_choice w path =
    from_last w path (find (λ j. is_undetermined (last_set w path j)) (flip_flops w.circuit))

-- what is looked for in such a window, and what its search goes by
abbrev pub sync_goal : SearchWindow → Goal
sync_goal w = goal_in w (sync_status w) (sync_choice w)

-- the guide of the search for a synchronizing list of so many vectors
abbrev pub sync_guide : Netlist → ℕ → Guide
sync_guide c frames = guide_to (sync_goal (sync_window c frames))
