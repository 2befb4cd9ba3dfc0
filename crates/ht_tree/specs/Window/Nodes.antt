-- The windows of a walk: each node is judged by its own window and by its path there.
use Rattle.std.specs.Prelude.{◌≤◌, ◌+◌, ◌-◌, List, map, Bool, false, ◌&&◌, if◌then◌else◌, ◌==◌, nat_lt, length, drop, take, Option, Some, None}
use Rattle.std.specs.List.{list_any, range_with_len}
use Rattle.ht_tern.specs.declared.tern.Tern.{Tern}
use Rattle.ht_tern.specs.declared.tern.Tern.TheVariants.{Unk}
use Rattle.ht_net.specs.Circuit.Netlist.{Netlist}
use Rattle.ht_tree.specs.declared.token.Assign3.{Assign3}
use Rattle.ht_tree.specs.Walk.Walks.{Node, Judge, window_begin, path_of}
use Rattle.ht_tree.specs.Window.Decisions.{decided_value}
use Rattle.ht_tree.specs.Window.Windows.{Start, one_frame, unknown, state_pair, back, SearchWindow}
use Rattle.ht_tree.specs.Window.WindowStatus.{is_definite, status_at, without_place}
use Rattle.ht_tree.specs.Window.Variables.{may_two, may_three}

-- a node's own window begins within its decisions
abbrev pub IsNode : Node → Type 0
IsNode n = window_begin n (length n.windows) ≤ length n.decisions

-- what was decided in the window above the node's own
abbrev pub path_above : Node → List Assign3
path_above n =
    drop (window_begin n (length n.windows - 1)) (take (window_begin n (length n.windows)) n.decisions)

-- a value, or X where none is decided
abbrev pub or_unknown : Option Tern → Tern
or_unknown None = Unk
or_unknown (Some value) = value

-- the latches that a path decided to 0 or 1, as a cube
abbrev pub cube_of : Netlist → List Assign3 → List Tern
cube_of c path = map (λ j. or_unknown (decided_value path (c.inputs + j))) (range_with_len 0 (length c.dffs))

-- the cube of a node's back window: what the window above it decided, or at the root the window's own
abbrev pub cube_at : Netlist → List Tern → Node → List Tern
cube_at c cube n = if length n.windows == 0 then cube else cube_of c (path_above n)

-- the start of a node's window: each `Before` begins the back window one frame earlier
abbrev pub start_at : Netlist → Node → Start → Start
start_at c n (one_frame z) = one_frame z
start_at c n unknown = unknown
start_at c n (state_pair good faulty) = state_pair good faulty
start_at c n (back cube limit) = back (cube_at c cube n) (limit - length n.windows)

-- the window of a node
abbrev pub window_at : SearchWindow → Node → SearchWindow
window_at w n = record w { start = start_at w.circuit n w.start }

-- the start of the window one frame earlier, for what a path of this one decided
abbrev pub start_below : Netlist → List Assign3 → Start → Start
start_below c path (one_frame z) = one_frame z
start_below c path unknown = unknown
start_below c path (state_pair good faulty) = state_pair good faulty
start_below c path (back cube limit) = back (cube_of c path) (limit - 1)

-- the window one frame earlier, for what a path of this one decided
abbrev pub window_below : SearchWindow → List Assign3 → SearchWindow
window_below w path = record w { start = start_below w.circuit path w.start }

-- `Before` fits at a path of a window with this start: a back window where a frame is left and the path decided some
-- latch to 0 or 1
abbrev pub before_of_start : Netlist → Start → List Assign3 → Bool
before_of_start c (one_frame z) path = false
before_of_start c unknown path = false
before_of_start c (state_pair good faulty) path = false
before_of_start c (back cube limit) path = nat_lt 0 limit && list_any is_definite (cube_of c path)

-- `Before` fits at a path of a window
abbrev pub may_go_before : SearchWindow → List Assign3 → Bool
may_go_before w path = before_of_start w.circuit w.start path

-- what judges the walks of a window
abbrev pub judge_of : SearchWindow → Judge
judge_of w = record {
  status = λ n. without_place (status_at (window_at w n) (path_of n));
  two = λ n var. may_two (window_at w n) var;
  three = λ n var. may_three (window_at w n) var;
  before = λ n. may_go_before (window_at w n) (path_of n);
}
