-- The windows of a search back as contracts see them.
use Rattle.std.specs.Prelude.{◌≡◌, ◌≤◌, List, ◌∷◌, length, reverse}
use Rattle.ht_tree.specs.declared.token.Assign3.{Assign3}
use Rattle.ht_net.specs.Frames.Rows.{Rows}
use Rattle.ht_tree.specs.Walk.Walks.{Node}
use Rattle.ht_tree.specs.Window.Windows.{SearchWindow, back_window}
use Rattle.ht_tree.specs.Walk.FoundLists.{back_list}
use Rattle.ht_search.specs.WindowSteps.{node_of, steps_under}
use Rattle.ht_justify.specs.Stacks.{AreUnder, decisions_of}
use Rattle.ht_justify.specs.declared.back_windows.BackWindows.TheInside.{Inside}

-- The first window, the decisions of each window above the deepest, from the first on, and those of the deepest.
pub record BackState : Type 0 where
  pub first : SearchWindow
  pub above : List (List Assign3)
  pub decisions : List Assign3

-- how far a search back has come, by its stored fields
abbrev pub back_state : Inside → BackState
back_state a = record {
  first = back_window a.circuit.now a.cube.now a.limit;
  above = decisions_of a.above.items;
  decisions = a.window.decisions;
}

-- each window is the one under those above it, there are no more of these than the limit, and the bases are the circuit's
pub record IsStacked (a : Inside) : Type 0 where
  pub under : AreUnder a.circuit.now a.cube.now a.limit (a.window ∷ reverse a.above.items)
  pub few : length a.above.items ≤ a.limit
  pub bases : a.bases.circuit ≡ a.circuit.now

-- the node of a back walk where the deepest window stands, and the list that is read off it
abbrev pub node_here : BackState → Node
node_here s = node_of (steps_under s.above s.decisions)

-- the vectors that a search back found, the earliest first
abbrev pub found_list : BackState → Rows
found_list s = record { width = s.first.circuit.inputs; list = back_list s.first.circuit (node_here s) }
