-- How the fields of the checker's window under clauses stand for it.
use Rattle.std.specs.Prelude.{◌≡◌, true}
use Rattle.std.specs.List.{All}
use Rattle.ht_net.specs.Circuit.Netlist.{Netlist}
use Rattle.ht_tree.specs.Clause.Clauses.{literals_of, literals_of_each}
use Rattle.ht_tree.specs.Clause.ClauseWindows.{ClauseWindow, Sought, breach, difference, is_one_frame}
use Rattle.ht_recompute.specs.WrittenClauses.{IsKnownClause}
use Rattle.ht_recompute.specs.declared.clause_window.Goal.{Goal}
use Rattle.ht_recompute.specs.declared.clause_window.Goal.TheVariants as goal
use Rattle.ht_recompute.specs.declared.clause_window.RecomputedClauseWindow.TheInside.{Inside}

-- what the checker's window looks for, as the definitions have it
abbrev pub sought_by : Goal → Sought
sought_by goal.Difference = difference
sought_by (goal.Breach clause) = breach (literals_of clause.now)

-- the window under clauses that the fields of the checker's stand for
abbrev pub clause_window_of : Inside → ClauseWindow
clause_window_of a = record {
  window = a.window;
  sought = sought_by a.goal;
  clauses = literals_of_each a.clauses.now;
}

-- what is looked for is the circuit's
abbrev pub IsGoal : Netlist → Goal → Type 0
IsGoal c goal.Difference = Unit {0}
IsGoal c (goal.Breach clause) = IsKnownClause c clause.now

-- The window is of one frame, from two states that agree outside a set, and the clauses are the circuit's.
pub record IsOneFrameUnder (a : Inside) : Type 0 where
  pub one : a.window.frames ≡ 1
  pub start : is_one_frame a.window.start ≡ true
  pub sought : IsGoal a.window.circuit a.goal
  pub known : All (IsKnownClause a.window.circuit) a.clauses.now
