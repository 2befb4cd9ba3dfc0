-- How many tokens a walk of one window can have.
use Rattle.std.specs.Prelude.{◌≡◌, ◌<◌, ◌≤◌, ◌+◌, ◌-◌, ◌^◌, ℕ, suc, zero, List, [], ◌∷◌, Bool, true, false, if◌then◌else◌, IsTrue}
use Rattle.ht_tern.specs.declared.tern.Tern.{Tern}
use Rattle.ht_tree.specs.declared.token.Assign3.{Assign3}
use Rattle.ht_tree.specs.declared.token.Token.TheVariants as token
use Rattle.ht_tree.specs.Walk.Walks.{Node, Judge, Fits, decide, decides, path_of}
use Rattle.ht_tree.specs.Window.Windows.{Start, one_frame, unknown, state_pair, back, SearchWindow}
use Rattle.ht_tree.specs.Window.Variables.{undecided_count}

-- What is left to decide at a node of a judge without `Before`: `Two` takes at least one from it, `Three` at least two.
pub record Measures (j : Judge) (left : Node → ℕ) : Type 0 where
  pub two : (n : Node) (var : ℕ) (first : Bool) (value : Tern) → n.windows ≡ [] → Fits j n (token.Two var first)
      → left (decide n var value) + 1 ≤ left n
  pub three : (n : Node) (var : ℕ) (value : Tern) → n.windows ≡ [] → Fits j n (token.Three var)
      → left (decide n var value) + 2 ≤ left n
  pub before : (n : Node) → j.before n ≡ false

-- the most tokens of a walk from a node with so much left
abbrev pub most_tokens : ℕ → ℕ
most_tokens r = 2 ^ (r + 1) - 1

-- the most tokens of a walk from all nodes of a stack
abbrev pub most_from : (Node → ℕ) → List Node → ℕ
most_from left [] = 0
most_from left (n ∷ rest) = most_tokens (left n) + most_from left rest

-- what a path leaves of the variables below a count, where each counts its size
abbrev pub left_below : (ℕ → ℕ) → ℕ → List Assign3 → ℕ
left_below size zero path = 0
left_below size (suc k) path = (if decides path k then 0 else size k) + left_below size k path

-- what a node leaves of the variables below a count, where each counts its size
abbrev pub left_at : (ℕ → ℕ) → ℕ → Node → ℕ
left_at size count n = left_below size count (path_of n)

-- Sizes of the variables of a judge without `Before`: those that `Two` decides have at least 1, those of `Three` at
-- least 2, and all are below the count.
pub record Sizes (j : Judge) (size : ℕ → ℕ) (count : ℕ) : Type 0 where
  pub two : (n : Node) (var : ℕ) → IsTrue (j.two n var) → (var < count) × (1 ≤ size var)
  pub three : (n : Node) (var : ℕ) → IsTrue (j.three n var) → (var < count) × (2 ≤ size var)
  pub before : (n : Node) → j.before n ≡ false

-- how many variables a node of one window leaves undecided
abbrev pub undecided_at : SearchWindow → Node → ℕ
undecided_at w n = undecided_count w (path_of n)

-- a difference of the two machines is looked for, so no window comes under another
abbrev pub seeks_difference : Start → Bool
seeks_difference (one_frame z) = true
seeks_difference unknown = true
seeks_difference (state_pair good faulty) = true
seeks_difference (back cube limit) = false
