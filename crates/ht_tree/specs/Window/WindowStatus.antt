-- The status of a window: what the decisions so far make of what is looked for.
use Rattle.std.specs.Prelude.{ℕ, suc, zero, List, [], ◌∷◌, filter, find, Bool, true, false, not, ◌&&◌, if◌then◌else◌, length, get_or, Option, Some, None}
use Rattle.std.specs.List.{list_any, list_all, range_with_len}
use Rattle.ht_tern.specs.declared.tern.Tern.{Tern}
use Rattle.ht_tern.specs.declared.tern.Tern.TheVariants.{Zero, One, Unk}
use Rattle.ht_pairs.specs.Pairs.{pair, is_member}
use Rattle.ht_net.specs.Circuit.Netlist.{Netlist}
use Rattle.ht_tree.specs.declared.token.Assign3.{Assign3}
use Rattle.ht_tree.specs.declared.token.Status3.{Status3}
use Rattle.ht_tree.specs.declared.token.Status3.TheVariants as status3
use Rattle.ht_tree.specs.declared.window.Spot.TheVariants.{State, Cube}
use Rattle.ht_tree.specs.declared.window.WindowPlace.{WindowPlace}
use Rattle.ht_tree.specs.declared.window.Status.{Status}
use Rattle.ht_tree.specs.declared.window.Status.TheVariants.{Dead, Sure, Open}
use Rattle.ht_tree.specs.Window.Windows.{Start, one_frame, unknown, state_pair, back, SearchWindow, is_undetermined}
use Rattle.ht_tree.specs.Window.Places.{places_of, set_at, must_differ_at, may_differ_at}

-- Sure at the place that must differ, if there is one; else Open where some place may differ, and Dead where none may
abbrev pub sure_or : Option WindowPlace → Bool → Status
sure_or (Some p) some = Sure p.frame p.spot
sure_or None some = if some then Open else Dead

-- Where a difference is looked for: Sure at the first place that holds only 01 and 10, Dead where no place holds 01 or
-- 10, else Open.
abbrev pub difference_status : SearchWindow → List Assign3 → Status
difference_status w path =
    sure_or (find (must_differ_at w path) (places_of w)) (list_any (may_differ_at w path) (places_of w))

-- a value is 0 or 1
abbrev pub is_definite : Tern → Bool
is_definite Zero = true
is_definite One = true
is_definite Unk = false

-- the value of latch j in a state or a cube; unknown where there is none
abbrev pub value_at : List Tern → ℕ → Tern
value_at cube j = get_or cube j Unk

-- a cube wants 0 or 1 of some latches, the lowest first, and nothing of those where it is unknown
abbrev pub cube_latches : Netlist → List Tern → List ℕ
cube_latches c cube = filter (λ j. is_definite (value_at cube j)) (range_with_len 0 (length c.dffs))

-- the next state of latch j holds the value that the cube wants
abbrev pub may_meet : SearchWindow → List Assign3 → List Tern → ℕ → Bool
may_meet w path cube j = is_member (pair (value_at cube j) (value_at cube j)) (set_at w path 0 (State j))

-- the next state of latch j holds the value that the cube wants, and no other
abbrev pub must_meet : SearchWindow → List Assign3 → List Tern → ℕ → Bool
must_meet w path cube j = may_meet w path cube j && not (is_undetermined (set_at w path 0 (State j)))

-- Where a cube is looked for: Sure where it wants nothing. Else Dead where no frame is left or some next state can't be
-- as wanted, Sure where each must be as wanted, and Open otherwise.
abbrev pub cube_status : SearchWindow → List Assign3 → List Tern → ℕ → List ℕ → Status
cube_status w path cube limit [] = Sure 0 Cube
cube_status w path cube zero (j ∷ latches) = Dead
cube_status w path cube (suc limit) (j ∷ latches) =
    if list_all (must_meet w path cube) (j ∷ latches) then Sure 0 Cube
    else if list_all (may_meet w path cube) (j ∷ latches) then Open else Dead

-- the status of a window with this start at a path, by what such a window looks for
abbrev pub status_from : SearchWindow → List Assign3 → Start → Status
status_from w path (one_frame z) = difference_status w path
status_from w path unknown = difference_status w path
status_from w path (state_pair good faulty) = difference_status w path
status_from w path (back cube limit) = cube_status w path cube limit (cube_latches w.circuit cube)

-- the status of a window at a path, with the first place where it is Sure
abbrev pub status_at : SearchWindow → List Assign3 → Status
status_at w path = status_from w path w.start

-- a status without its place
abbrev pub without_place : Status → Status3
without_place Dead = status3.Dead
without_place (Sure frame place) = status3.Sure
without_place Open = status3.Open
