-- The choice of the next variable: back from a place that may still show what is looked for, along undetermined nets.
use Rattle.std.specs.Prelude.{◌<◌, ◌+◌, ◌-◌, ℕ, suc, zero, List, [], ◌∷◌, find, Bool, true, false, not, if◌then◌else◌, nat_lt, length, Option, Some, None}
use Rattle.ht_tern.specs.declared.gate.Kind.{Kind}
use Rattle.ht_tern.specs.Gate.{inverts}
use Rattle.ht_tern.specs.declared.tern.Tern.{Tern}
use Rattle.ht_tern.specs.declared.tern.Tern.TheVariants.{Zero, One, Unk}
use Rattle.ht_pairs.specs.Pairs.{Pair}
use Rattle.ht_net.specs.declared.net.NetId.{NetId}
use Rattle.ht_net.specs.Circuit.Netlist.{Netlist, first_gate_net, gate_at, net_count}
use Rattle.ht_net.specs.Frames.Frame.{Rules}
use Rattle.ht_tree.specs.declared.token.Assign3.{Assign3}
use Rattle.ht_tree.specs.declared.token.Choice.{Choice}
use Rattle.ht_tree.specs.declared.token.Choice.TheVariants.{Two, Three}
use Rattle.ht_tree.specs.declared.window.Spot.TheVariants.{State}
use Rattle.ht_tree.specs.declared.window.WindowPlace.{WindowPlace}
use Rattle.ht_tree.specs.Walk.Walks.{decides}
use Rattle.ht_tree.specs.Window.Windows.{Start, one_frame, unknown, state_pair, back, SearchWindow, first_input, pair_set_rules, cell_at, is_undetermined}
use Rattle.ht_tree.specs.Window.Places.{places_of, spot_net, set_at, may_differ_at}
use Rattle.ht_tree.specs.Window.WindowStatus.{value_at, cube_latches}

-- A net, and the value that is wanted there.
pub record Wanted : Type 0 where
  pub net : ℕ
  pub bit : Bool

-- what is wanted at a gate's arguments: the kinds that give a complement turn the bit
abbrev pub bit_before : Kind → Bool → Bool
bit_before kind bit = if inverts kind then not bit else bit

-- the net of the first argument of gate g, from pin i on, whose set at the pin is undetermined
abbrev pub undetermined_argument : Rules (List Pair) → ℕ → (ℕ → List Pair) → ℕ → List NetId → ℕ
undetermined_argument r g env i [] = 0
undetermined_argument r g env i (a ∷ args) =
    if is_undetermined (r.pin g i (env a.0)) then a.0 else undetermined_argument r g env (i + 1) args

-- from a net back over at most k gates of one frame, to an input or a latch
unfoldable pub back_over : Netlist → Rules (List Pair) → (ℕ → List Pair) → ℕ → Wanted → Wanted
back_over c r env zero at = at
back_over c r env (suc k) at =
    if nat_lt at.net (first_gate_net c) then at
    else (let g = at.net - first_gate_net c in
    back_over c r env k (record {
      net = undetermined_argument r g env 0 (gate_at c g).args;
      bit = bit_before (gate_at c g).kind at.bit;
    }))

-- where the walk back ends within frame f
abbrev pub end_in_frame : SearchWindow → List Assign3 → ℕ → Wanted → Wanted
end_in_frame w path f at =
    back_over w.circuit (pair_set_rules w.fault) (cell_at w path f) (length w.circuit.gates) at

-- the choice at a latch of the first frame: its good half before its faulty one; any at a start without latch variables
abbrev pub latch_choice : SearchWindow → List Assign3 → Start → Wanted → Choice
latch_choice w path (one_frame z) at =
    Two (if decides path at.net then at.net + length w.circuit.dffs else at.net) at.bit
latch_choice w path unknown at = Two at.net at.bit
latch_choice w path (state_pair good faulty) at = Two at.net at.bit
latch_choice w path (back cube limit) at = Three at.net

-- the choice where the walk back has come to an input or a latch of frame f: there, or further back from the data pin
-- of the latch in the frame before
unfoldable pub choice_at : SearchWindow → List Assign3 → ℕ → Wanted → Choice
choice_at w path zero at =
    if nat_lt at.net w.circuit.inputs then Two (first_input w 0 + at.net) at.bit
    else latch_choice w path w.start at
choice_at w path (suc f) at =
    if nat_lt at.net w.circuit.inputs then Two (first_input w (suc f) + at.net) at.bit
    else choice_at w path f (end_in_frame w path f
    (record { net = spot_net w.circuit (State (at.net - w.circuit.inputs)); bit = at.bit }))

-- The walk back from net x of frame f with a wanted bit: at a gate to its first undetermined argument, at a latch to
-- its data pin in the frame before, to an input or to a latch of the first frame.
abbrev pub walk_back : SearchWindow → List Assign3 → ℕ → ℕ → Bool → Choice
walk_back w path f x bit = choice_at w path f (end_in_frame w path f (record { net = x; bit = bit }))

-- A net from which the walk back may begin: its cell is undetermined.
pub record CanWalk (w : SearchWindow) (path : List Assign3) (f x : ℕ) : Type 0 where
  pub frame : f < w.frames
  pub net : x < net_count w.circuit
  pub undetermined : 1 < length (cell_at w path f x)

-- The walk back from the first place that may differ, where it wants 1; without such a place the choice is any.
abbrev pub from_place : SearchWindow → List Assign3 → Option WindowPlace → Choice
from_place w path None = Two 0 true
from_place w path (Some p) = walk_back w path p.frame (spot_net w.circuit p.spot) true

-- the cube wants 1 of a latch
abbrev pub wants_one : Tern → Bool
wants_one Zero = false
wants_one One = true
wants_one Unk = false

-- The walk back from the lowest latch of the cube whose next state is undetermined, where it wants the cube's value;
-- without such a latch the choice is any.
abbrev pub from_latch : SearchWindow → List Assign3 → List Tern → Option ℕ → Choice
from_latch w path cube None = Two 0 true
from_latch w path cube (Some j) = walk_back w path 0 (spot_net w.circuit (State j)) (wants_one (value_at cube j))

-- the choice of variable, by the start
abbrev pub pick_from : SearchWindow → List Assign3 → Start → Choice
pick_from w path (one_frame z) = from_place w path (find (may_differ_at w path) (places_of w))
pick_from w path unknown = from_place w path (find (may_differ_at w path) (places_of w))
pick_from w path (state_pair good faulty) = from_place w path (find (may_differ_at w path) (places_of w))
pick_from w path (back cube limit) =
    from_latch w path cube (find (λ j. is_undetermined (set_at w path 0 (State j))) (cube_latches w.circuit cube))

-- the choice of variable
abbrev pub pick_of : SearchWindow → List Assign3 → Choice
pick_of w path = pick_from w path w.start
