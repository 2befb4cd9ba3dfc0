-- Windows under clauses: one frame from the states that meet each of these clauses, in which a difference of the two
-- machines is looked for, or a next state of the good machine that doesn't meet a clause.
use Rattle.std.specs.Prelude.{◌≡◌, ℕ, List, [], Bool, true, false, not, ◌&&◌, if◌then◌else◌, None}
use Rattle.std.specs.List.{list_any, list_all}
use Rattle.ht_tern.specs.Gate.{tern_of}
use Rattle.ht_pairs.specs.Pairs.{pair, is_member}
use Rattle.ht_net.specs.declared.fault.Fault.{Fault}
use Rattle.ht_net.specs.Circuit.Netlist.{Netlist}
use Rattle.ht_tree.specs.declared.token.Assign3.{Assign3}
use Rattle.ht_tree.specs.declared.token.Status3.{Status3}
use Rattle.ht_tree.specs.declared.token.Status3.TheVariants.{Dead, Sure, Open}
use Rattle.ht_tree.specs.declared.window.Spot.TheVariants.{State}
use Rattle.ht_tree.specs.Walk.Walks.{Judge, path_of}
use Rattle.ht_tree.specs.Window.Windows.{Start, one_frame, unknown, state_pair, back, SearchWindow, IsWindow, one_frame_window, is_undetermined}
use Rattle.ht_tree.specs.Window.Places.{set_at}
use Rattle.ht_tree.specs.Window.WindowStatus.{status_at, without_place}
use Rattle.ht_tree.specs.Window.Nodes.{judge_of}
use Rattle.ht_tree.specs.declared.clause.Literal.{Literal}
use Rattle.ht_tree.specs.Clause.Clauses.{AreKnown, AreKnownClauses, path_meets, path_breaks}

-- What is looked for in the frame: a difference of the two machines, or a next state that doesn't meet a clause.
pub data Sought : Type 0 where
  difference : Sought
  breach : List Literal → Sought

-- A window of one frame, what is looked for there, and the clauses that its states meet.
pub record ClauseWindow : Type 0 where
  pub window : SearchWindow
  pub sought : Sought
  pub clauses : List (List Literal)

-- one frame of the good machine alone, from any state
abbrev pub good_window : Netlist → SearchWindow
good_window c = record { circuit = c; fault = None; frames = 1; start = one_frame [] }

-- the closing window of a clause under clauses
abbrev pub closing_window : Netlist → List (List Literal) → List Literal → ClauseWindow
closing_window c clauses literals = record { window = good_window c; sought = breach literals; clauses = clauses }

-- the one-frame window of a fault and a set of flip-flops under clauses
abbrev pub window_under : Netlist → Fault → List ℕ → List (List Literal) → ClauseWindow
window_under c fault z clauses =
    record { window = one_frame_window c fault z; sought = difference; clauses = clauses }

-- the next state of a literal's latch can have the other bit
abbrev pub may_miss : SearchWindow → List Assign3 → Literal → Bool
may_miss w path literal =
    is_member (pair (tern_of (not literal.value)) (tern_of (not literal.value))) (set_at w path 0 (State literal.dff))

-- it can have no other value
abbrev pub must_miss : SearchWindow → List Assign3 → Literal → Bool
must_miss w path literal =
    may_miss w path literal && not (is_undetermined (set_at w path 0 (State literal.dff)))

-- Where a next state that doesn't meet a clause is looked for: Dead where the next state of some literal's latch can't
-- have the other bit, Sure where each has it for certain, else Open.
abbrev pub breach_status : SearchWindow → List Assign3 → List Literal → Status3
breach_status w path literals =
    if list_all (must_miss w path) literals then Sure
    else if list_all (may_miss w path) literals then Open else Dead

-- the status of what is looked for, whatever the clauses
abbrev pub sought_status : SearchWindow → List Assign3 → Sought → Status3
sought_status w path difference = without_place (status_at w path)
sought_status w path (breach literals) = breach_status w path literals

-- not Sure yet
abbrev pub open_if_sure : Status3 → Status3
open_if_sure Dead = Dead
open_if_sure Sure = Open
open_if_sure Open = Open

-- What clauses make of a status: Dead too where the path breaks a clause, and Sure only where it meets every clause.
abbrev pub under_clauses : Netlist → List Assign3 → List (List Literal) → Status3 → Status3
under_clauses c path clauses status =
    if list_any (path_breaks c path) clauses then Dead
    else if list_all (path_meets c path) clauses then status else open_if_sure status

-- the status of a window under clauses
abbrev pub status_under : ClauseWindow → List Assign3 → Status3
status_under w path = under_clauses w.window.circuit path w.clauses (sought_status w.window path w.sought)

-- what judges the walks of a window under clauses: its window's judge, with this status
abbrev pub judge_under : ClauseWindow → Judge
judge_under w = record (judge_of w.window) { status = λ n. status_under w (path_of n) }

-- a start of one frame from two states that agree outside a set
abbrev pub is_one_frame : Start → Bool
is_one_frame (one_frame z) = true
is_one_frame unknown = false
is_one_frame (state_pair good faulty) = false
is_one_frame (back cube limit) = false

-- what is looked for is the circuit's
abbrev pub IsSought : Netlist → Sought → Type 0
IsSought c difference = Unit {0}
IsSought c (breach literals) = AreKnown c literals

-- A window under clauses of a well-formed circuit.
pub record IsClauseWindow (w : ClauseWindow) : Type 0 where
  pub window : IsWindow w.window
  pub one_frame : is_one_frame w.window.start ≡ true
  pub sought : IsSought w.window.circuit w.sought
  pub known : AreKnownClauses w.window.circuit w.clauses
