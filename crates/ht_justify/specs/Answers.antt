-- What the justification of a cube answers, and what that means.
use Rattle.std.specs.Prelude.{◌≡◌, ◌≤◌, ℕ, List, [], Bool, true, false, length}
use Rattle.ht_tern.specs.declared.tern.Tern.{Tern}
use Rattle.ht_net.specs.Circuit.Netlist.{Netlist}
use Rattle.ht_net.specs.Frames.Rows.{Rows}
use Rattle.ht_tree.specs.declared.token.Token.{Token}
use Rattle.ht_tree.specs.Walk.Walks.{Node, IsComplete}
use Rattle.ht_tree.specs.Window.Windows.{back_window}
use Rattle.ht_tree.specs.Window.Nodes.{judge_of}
use Rattle.ht_tree.specs.Walk.Searches.{FindsAt, Closes, SpendsAt, guide_of}
use Rattle.ht_tree.specs.Walk.FoundLists.{back_list}
use Rattle.ht_tree.specs.Record.Reached.{AreVectors, Reaches}
use Rattle.ht_tree.specs.Record.SearchRecords.{IsSpentWalk}
use Rattle.ht_tree.specs.Record.AimedAttempts.{is_wanting}
use Rattle.ht_search.specs.declared.outcome.Outcome.{Outcome}
use Rattle.ht_search.specs.declared.outcome.Outcome.TheVariants as outcome
use Rattle.ht_justify.specs.declared.justification.Back.{Back}
use Rattle.ht_justify.specs.declared.justification.Back.TheVariants.{Reached, Closed, Spent}

-- the answer that an outcome of the search comes to, where a list is read off
abbrev pub answer_of : Rows → Outcome → Back
answer_of list (outcome.Found tokens) = Reached list
answer_of list (outcome.Closed tokens) = Closed tokens.items
answer_of list (outcome.Spent tokens) = Spent tokens.items

-- A list that the search of a cube's back window finds: it is read off the node where the search stands.
pub record FindsListBack (c : Netlist) (cube : List Tern) (limit budget : ℕ) (list : Rows) : Type 0 where
  pub tokens : List Token
  pub node : Node
  pub found : FindsAt (guide_of (back_window c cube limit)) budget 1 tokens node
  pub listed : list ≡ record { width = c.inputs; list = back_list c node }

-- The list of a cube: the empty one where it wants nothing, else one that is found.
pub record IsListFor (c : Netlist) (cube : List Tern) (limit budget : ℕ) (list : Rows) : Type 0 where
  pub empty : is_wanting cube ≡ false → list ≡ record { width = c.inputs; list = [] }
  pub found : is_wanting cube ≡ true → FindsListBack c cube limit budget list

-- the search that leads to each answer
abbrev pub IsBack : Netlist → List Tern → ℕ → ℕ → Back → Type 0
IsBack c cube limit budget (Reached list) = IsListFor c cube limit budget list
IsBack c cube limit budget (Closed tokens) = Closes (guide_of (back_window c cube limit)) budget 1 tokens
IsBack c cube limit budget (Spent tokens) =
    (node : Node) × SpendsAt (guide_of (back_window c cube limit)) budget 1 tokens node

-- A list back to a cube: at most so many vectors of the circuit's width, after which the good machine from all-unknown
-- has the cube.
pub record IsListBack (c : Netlist) (cube : List Tern) (limit : ℕ) (list : Rows) : Type 0 where
  pub reaches : Reaches c list.list cube
  pub few : length list.list ≤ limit
  pub wide : AreVectors c list.list
  pub width : list.width ≡ c.inputs

-- A complete back tree of a cube that wants something: no list of at most so many vectors, of any widths, leads to it.
pub record IsClosedTree (c : Netlist) (cube : List Tern) (limit : ℕ) (tokens : List Token) : Type 0 where
  pub wants : is_wanting cube ≡ true
  pub tree : IsComplete (judge_of (back_window c cube limit)) tokens
  pub none : (list : List (List Bool)) → length list ≤ limit → ¬ Reaches c list cube

-- An open back tree of a cube that wants something, of as many tokens as the budget has.
pub record IsSpentTree (c : Netlist) (cube : List Tern) (limit budget : ℕ) (tokens : List Token) : Type 0 where
  pub wants : is_wanting cube ≡ true
  pub tree : IsSpentWalk (back_window c cube limit) budget tokens
  pub exact : length tokens ≡ budget

-- what each answer means
abbrev pub BackHolds : Netlist → List Tern → ℕ → ℕ → Back → Type 0
BackHolds c cube limit budget (Reached list) = IsListBack c cube limit list
BackHolds c cube limit budget (Closed tokens) = IsClosedTree c cube limit tokens
BackHolds c cube limit budget (Spent tokens) = IsSpentTree c cube limit budget tokens
