-- What the walks of a window are judged by.
use Rattle.std.specs.Prelude.{ℕ}
use Rattle.ht_net.specs.Circuit.Netlist.{Netlist}
use Rattle.ht_tree.specs.Walk.Walks.{Judge}
use Rattle.ht_tree.specs.Window.Windows.{SearchWindow, token_weight}
use Rattle.ht_tree.specs.Window.Nodes.{judge_of}
use Rattle.ht_tree.specs.Clause.ClauseWindows.{ClauseWindow, judge_under}

-- What judges the nodes of a window's walks, what a token of them weighs, and the circuit of the window's frames.
pub record JudgedKind : Type 0 where
  pub judge : Judge
  pub unit : ℕ
  pub circuit : Netlist

-- what the walks of a window are judged by
abbrev pub judged_kind : SearchWindow → JudgedKind
judged_kind w = record { judge = judge_of w; unit = token_weight w; circuit = w.circuit }

-- what the walks of a window under clauses are judged by
abbrev pub judged_kind_under : ClauseWindow → JudgedKind
judged_kind_under w = record { judge = judge_under w; unit = token_weight w.window; circuit = w.window.circuit }
