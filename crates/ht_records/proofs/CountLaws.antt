-- A search of a window under clauses is never spent where its budget has room for twice the leaves of its variables.
use Rattle.std.proofs.Common.{◌≡◌, ◌≤◌, ◌+◌, ◌^◌, ℕ, List, true, arith}
use Rattle.ht_tree.specs.declared.token.Token.{Token}
use Rattle.ht_tree.specs.Walk.Walks.{Node}
use Rattle.ht_tree.specs.Window.Windows.{Start, one_frame, unknown, state_pair, back}
use Rattle.ht_tree.specs.Window.Variables.{variable_count}
use Rattle.ht_tree.specs.Walk.Searches.{SpendsAt}
use Rattle.ht_tree.specs.Walk.Counts.{seeks_difference, undecided_at}
use Rattle.ht_tree.specs.Clause.ClauseWindows.{ClauseWindow, IsClauseWindow, is_one_frame, judge_under}
use Rattle.ht_tree.specs.Clause.ClauseSearches.{guide_under}
use Rattle.ht_tree.proofs.CountLaws.{enough}
use Rattle.ht_tree.proofs.DifferenceCountLaws.{undecided_measures_by}

-- the start of a one-frame window is one from which a difference is looked for
pub one_frame_seeks : (s : Start) → is_one_frame s ≡ true → seeks_difference s ≡ true
one_frame_seeks (one_frame z) h = h
one_frame_seeks unknown h = cc
one_frame_seeks (state_pair good faulty) h = cc
one_frame_seeks (back cube limit) h = cc

-- a search under clauses over v variables is never spent where its budget has room for 2^(v + 1) tokens
pub clause_search_enough : (w : ClauseWindow) (budget : ℕ) (tokens : List Token) (n : Node) → IsClauseWindow w
    → 2 ^ (variable_count w.window + 1) ≤ budget → ¬ SpendsAt (guide_under w) budget 1 tokens n
clause_search_enough w budget tokens n is h =
    enough (guide_under w) (undecided_at w.window) budget 1 tokens n
    (undecided_measures_by w.window is.window (one_frame_seeks w.window.start is.one_frame) (judge_under w).status)
    (omega (arith, h))
