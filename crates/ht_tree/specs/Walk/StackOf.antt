-- How the fields of a stack stand for its nodes.
use Rattle.std.specs.Prelude.{◌<◌, ◌≤◌, ◌-◌, ◌/◌, List, [], ◌∷◌, ◌++◌, ℕ, cond, length, min, reverse, take, vec_capacity, vec_len}
use Rattle.ht_tree.specs.declared.token.Assign3.{Assign3}
use Rattle.ht_tree.specs.declared.stack.TheConstants.{MAX_WINDOWS}
use Rattle.ht_tree.specs.declared.stack.Waiting.{Waiting}
use Rattle.ht_tree.specs.declared.stack.Stack.TheInside.{Inside}
use Rattle.ht_tree.specs.Walk.Walks.{Node}
use Rattle.ht_tree.specs.Walk.NodeOf.{AreWindows}

-- the nodes that wait below one to which these decisions and windows lead, the next one first: each branches off the
-- way to the one above it
abbrev pub waiting_nodes : List Assign3 → List ℕ → List Waiting → List Node
waiting_nodes decisions windows [] = []
waiting_nodes decisions windows (w ∷ below) =
    record { decisions = take w.decisions decisions ++ w.last ∷ []; windows = take w.windows windows }
    ∷ waiting_nodes (take w.decisions decisions ++ w.last ∷ []) (take w.windows windows) below

-- the node on top, and those that wait
abbrev pub nodes_by : List Assign3 → List ℕ → List Waiting → List Node
nodes_by decisions windows below =
    record { decisions = decisions; windows = windows } ∷ waiting_nodes decisions windows below

-- the fields of a stack as its nodes
abbrev pub stack_of : Inside → List Node
stack_of a = cond a.empty [] (nodes_by a.decisions.items a.windows.items (reverse a.waiting.items))

-- how many tokens the fields have room for: a token takes one free place at most among the decisions and among the
-- windows, of which no more than `MAX_WINDOWS` are used, and two among the nodes that wait
abbrev pub spare_of : Inside → ℕ
spare_of a =
    min (min (vec_capacity a.decisions - vec_len a.decisions)
    (min (vec_capacity a.windows) MAX_WINDOWS - vec_len a.windows))
    ((vec_capacity a.waiting - vec_len a.waiting) / 2)

-- A node that waits branches off within the way to the one above it, whose windows begin within its decisions.
pub record BranchesOff (decisions : List Assign3) (windows : List ℕ) (w : Waiting) : Type 0 where
  pub begins : AreWindows decisions windows
  pub inside : w.decisions < length decisions
  pub shallow : w.windows ≤ length windows

-- of the nodes that wait below one to which these decisions and windows lead, each branches off the way to the one
-- above it
abbrev pub Branch : List Assign3 → List ℕ → List Waiting → Type 0
Branch decisions windows [] = AreWindows decisions windows
Branch decisions windows (w ∷ below) =
    BranchesOff decisions windows w × Branch (take w.decisions decisions ++ w.last ∷ []) (take w.windows windows) below

-- each node that waits in a stack's fields branches off the way to the one above it
abbrev pub HasBranches : Inside → Type 0
HasBranches a = Branch a.decisions.items a.windows.items (reverse a.waiting.items)
