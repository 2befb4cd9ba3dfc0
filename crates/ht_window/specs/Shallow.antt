-- How many windows may stand one under the other.
use Rattle.std.specs.Prelude.{◌<◌, ◌-◌, ◌&&◌, ℕ, Bool, IsTrue, nat_lt, length}
use Rattle.std.specs.List.{list_any}
use Rattle.std.proofs.Common.{arith}
use Rattle.std.proofs.lemmas.Bool.{and_parts}
use Rattle.std.proofs.lemmas.Bool.Decides.{nat_tests}
use Rattle.ht_net.specs.Circuit.Netlist.{Netlist}
use Rattle.ht_tree.specs.Walk.Walks.{Node, path_of}
use Rattle.ht_tree.specs.Window.Windows.{SearchWindow, Start, one_frame, unknown, state_pair, back}
use Rattle.ht_tree.specs.Window.WindowStatus.{is_definite}
use Rattle.ht_tree.specs.Window.Nodes.{before_of_start, cube_of, start_at, judge_of}

below : (limit k : ℕ) (b : Bool) → IsTrue (nat_lt 0 (limit - k) && b) → k < limit
below limit k b h = let some = (and_parts (nat_lt 0 (limit - k)) b h).0 in grind (arith, nat_tests)

-- as many windows come under the first as frames are left to a back window, and none under another
abbrev pub most_windows : Start → ℕ
most_windows (one_frame z) = 0
most_windows unknown = 0
most_windows (state_pair good faulty) = 0
most_windows (back cube limit) = limit

few_of : (c : Netlist) (s : Start) (n : Node) → IsTrue (before_of_start c (start_at c n s) (path_of n))
    → length n.windows < most_windows s
few_of c (one_frame z) n h = cc
few_of c unknown n h = cc
few_of c (state_pair good faulty) n h = cc
few_of c (back cube limit) n h = below limit (length n.windows) (list_any is_definite (cube_of c (path_of n))) h

-- A walk of a window stacks fewer windows than the start lets it.
pub window_shallow : (w : SearchWindow)
    → (most : ℕ) × ((n : Node) → IsTrue ((judge_of w).before n) → length n.windows < most)
window_shallow w = (most_windows w.start, few_of w.circuit w.start)
