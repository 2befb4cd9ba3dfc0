-- How the fields of a node of a walk stand for it.
use Rattle.std.specs.Prelude.{◌<◌, ◌≤◌, ◌^◌, ℕ, List, length, get_or}
use Rattle.ht_tree.specs.declared.token.Assign3.{Assign3}
use Rattle.ht_tree.specs.declared.node.WalkNode.TheInside.{Inside}
use Rattle.ht_tree.specs.Walk.Walks.{Node}

-- Windows begin within the decisions, one after the other.
pub record AreWindows (decisions : List Assign3) (windows : List ℕ) : Type 0 where
  pub within : (k : ℕ) → k < length windows → get_or windows k 0 ≤ length decisions
  pub rise : (i k : ℕ) → i < k → k < length windows → get_or windows i 0 ≤ get_or windows k 0
  pub few : length windows < 2 ^ 32

-- the fields of a node as the node
abbrev pub node_by : Inside → Node
node_by a = record { decisions = a.decisions.now; windows = a.windows.now }

-- the windows of a node's fields begin within its decisions
abbrev pub HasWindows : Inside → Type 0
HasWindows a = AreWindows a.decisions.now a.windows.now
