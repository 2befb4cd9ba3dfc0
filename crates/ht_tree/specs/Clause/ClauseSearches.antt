-- What the search of a window under clauses goes by: its judge, and the variable that is chosen at each node.
use Rattle.std.specs.Prelude.{◌+◌, List, true, not, Option, Some, None}
use Rattle.std.specs.List.{find}
use Rattle.ht_net.specs.Circuit.Netlist.{Netlist}
use Rattle.ht_tree.specs.declared.token.Assign3.{Assign3}
use Rattle.ht_tree.specs.declared.token.Choice.{Choice}
use Rattle.ht_tree.specs.declared.token.Choice.TheVariants.{Two}
use Rattle.ht_tree.specs.declared.token.Status3.{Status3}
use Rattle.ht_tree.specs.declared.token.Status3.TheVariants.{Dead, Sure, Open}
use Rattle.ht_tree.specs.declared.window.Spot.TheVariants.{State}
use Rattle.ht_tree.specs.Walk.Walks.{decides, path_of}
use Rattle.ht_tree.specs.Window.Windows.{SearchWindow, is_undetermined}
use Rattle.ht_tree.specs.Window.Places.{spot_net, set_at}
use Rattle.ht_tree.specs.Window.WindowStatus.{status_at, without_place}
use Rattle.ht_tree.specs.Window.WalkBack.{walk_back, pick_of}
use Rattle.ht_tree.specs.Walk.Searches.{Guide}
use Rattle.ht_tree.specs.declared.clause.Literal.{Literal}
use Rattle.ht_tree.specs.Clause.Clauses.{path_meets}
use Rattle.ht_tree.specs.Clause.ClauseWindows.{Sought, difference, breach, ClauseWindow, judge_under}

-- the window's own choice where it is open
abbrev pub choice_if_open : Status3 → Choice → Option Choice
choice_if_open Dead choice = None
choice_if_open Sure choice = None
choice_if_open Open choice = Some choice

-- the walk back from the next state of a literal's latch, where it wants the other bit
abbrev pub back_from : SearchWindow → List Assign3 → Option Literal → Option Choice
back_from w path None = None
back_from w path (Some literal) =
    Some (walk_back w path 0 (spot_net w.circuit (State literal.dff)) (not literal.value))

-- The choice for what is looked for: the window's own where some place may differ and none must; or the walk back from
-- the first literal's latch whose next state is undetermined. None where there is no such place or latch.
abbrev pub sought_choice : SearchWindow → List Assign3 → Sought → Option Choice
sought_choice w path difference = choice_if_open (without_place (status_at w path)) (pick_of w path)
sought_choice w path (breach literals) =
    back_from w path (find (λ (literal : Literal). is_undetermined (set_at w path 0 (State literal.dff))) literals)

-- the choice of a literal's latch, first to its bit; any choice where there is no literal
abbrev pub to_literal : Netlist → Option Literal → Choice
to_literal c None = Two 0 true
to_literal c (Some literal) = Two (c.inputs + literal.dff) literal.value

-- The choice for a clause: the first literal's latch that the path doesn't decide, first to its bit. Any choice where
-- there is no clause or no literal.
abbrev pub to_clause : Netlist → List Assign3 → Option (List Literal) → Choice
to_clause c path None = Two 0 true
to_clause c path (Some literals) =
    to_literal c (find (λ (literal : Literal). not (decides path (c.inputs + literal.dff))) literals)

-- a choice, or another where there is none
abbrev pub choice_or : Choice → Option Choice → Choice
choice_or other None = other
choice_or other (Some choice) = choice

-- The choice of variable: the one for what is looked for, else that for the first clause that the path doesn't meet.
abbrev pub pick_under : ClauseWindow → List Assign3 → Choice
pick_under w path =
    choice_or
    (to_clause w.window.circuit path (find (λ literals. not (path_meets w.window.circuit path literals)) w.clauses))
    (sought_choice w.window path w.sought)

-- the guide of a window under clauses
abbrev pub guide_under : ClauseWindow → Guide
guide_under w = record { judge = judge_under w; choice = λ n. pick_under w (path_of n) }
