-- What a search goes by, what it writes, and how it ends.
use Rattle.std.specs.Prelude.{◌≡◌, ◌<◌, ◌≤◌, ◌+◌, ℕ, List, [], ◌∷◌, ◌++◌, false}
use Rattle.ht_tree.specs.declared.token.Assign3.{Assign3}
use Rattle.ht_tree.specs.declared.token.Token.{Token}
use Rattle.ht_tree.specs.declared.token.Token.TheVariants as token
use Rattle.ht_tree.specs.declared.token.Choice.{Choice}
use Rattle.ht_tree.specs.declared.token.Choice.TheVariants as choice
use Rattle.ht_tree.specs.declared.token.Status3.TheVariants as status
use Rattle.ht_tree.specs.Walk.Walks.{Node, Judge, IsComplete, IsOpen, children, path_of, root_stack, stack_after, weight_of}
use Rattle.ht_tree.specs.Window.Windows.{SearchWindow}
use Rattle.ht_tree.specs.Window.Nodes.{window_at, judge_of}
use Rattle.ht_tree.specs.Window.WalkBack.{pick_of}

-- What a search goes by: the judge of its nodes, and the variable that is chosen at each.
pub record Guide : Type 0 where
  pub judge : Judge
  pub choice : Node → Choice

-- a window's guide: each node is judged, and its variable chosen, by its own window and its path there
abbrev pub guide_of : SearchWindow → Guide
guide_of w = record { judge = judge_of w; choice = λ n. pick_of (window_at w n) (path_of n) }

-- the token that decides the chosen variable
abbrev pub deciding_token : Choice → Token
deciding_token (choice.Two var first) = token.Two var first
deciding_token (choice.Three var) = token.Three var

-- a token that decides a variable decides the chosen one
abbrev pub IsChosen : (Node → Choice) → Node → Token → Type 0
IsChosen chosen n (token.Two var first) = chosen n ≡ choice.Two var first
IsChosen chosen n (token.Three var) = chosen n ≡ choice.Three var
IsChosen chosen n token.Dead = Unit {0}
IsChosen chosen n token.Before = Unit {0}

-- A chosen walk: each token that decides a variable decides the one that is chosen at the node then on top.
abbrev pub AllChosen : (Node → Choice) → List Node → List Token → Type 0
AllChosen chosen stack [] = Unit {0}
AllChosen chosen [] (t ∷ tokens) = ⊥
AllChosen chosen (n ∷ rest) (t ∷ tokens) = IsChosen chosen n t × AllChosen chosen (children n t ++ rest) tokens

-- A search keeps to the choice, and to a budget for what its tokens weigh, a unit each.
pub record Keeps (g : Guide) (budget unit : ℕ) (tokens : List Token) : Type 0 where
  pub chosen : AllChosen g.choice root_stack tokens
  pub within : weight_of unit tokens ≤ budget

-- the node is the next one of a stack
abbrev pub IsOnTop : Node → List Node → Type 0
IsOnTop n [] = ⊥
IsOnTop n (top ∷ rest) = n ≡ top

-- A node that asks for no token: what is looked for is shown, and no window comes under it.
pub record IsFound (j : Judge) (n : Node) : Type 0 where
  pub sure : j.status n ≡ status.Sure
  pub last : j.before n ≡ false

-- Found: the walk is open, and the node on top is found.
pub record FindsAt (g : Guide) (budget unit : ℕ) (tokens : List Token) (n : Node) : Type 0 where
  pub walk : IsOpen g.judge tokens
  pub keeps : Keeps g budget unit tokens
  pub top : IsOnTop n (stack_after root_stack tokens)
  pub found : IsFound g.judge n

-- Closed: the walk is complete.
pub record Closes (g : Guide) (budget unit : ℕ) (tokens : List Token) : Type 0 where
  pub walk : IsComplete g.judge tokens
  pub keeps : Keeps g budget unit tokens

-- Spent: the walk is open, and the node on top asks for a token for which the budget has no room.
pub record SpendsAt (g : Guide) (budget unit : ℕ) (tokens : List Token) (n : Node) : Type 0 where
  pub walk : IsOpen g.judge tokens
  pub keeps : Keeps g budget unit tokens
  pub top : IsOnTop n (stack_after root_stack tokens)
  pub asks : ¬ IsFound g.judge n
  pub spent : budget < weight_of unit tokens + unit

-- the node after decisions in the first window
abbrev pub node_at : List Assign3 → Node
node_at path = record { decisions = path; windows = [] }
