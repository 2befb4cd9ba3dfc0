-- A walk as contracts see it, and what a token makes of it.
use Rattle.std.specs.Prelude.{◌+◌, ◌-◌, ◌^◌, ℕ, List, min}
use Rattle.ht_tree.specs.declared.token.Token.{Token}
use Rattle.ht_tree.specs.Walk.Walks.{Node, root_stack, next_stack}

-- Something with room: what it stands for, and how many tokens it takes for sure without asking for memory. Where it is
-- said to be as before, only the first is meant.
pub record WithRoom (A : Type 0) : Type 0 where
  pub state : A
  pub spare : ℕ

-- The nodes that are left, what a token weighs, and what the tokens so far weigh.
pub record WalkState : Type 0 where
  pub stack : List Node
  pub unit : ℕ
  pub weight : ℕ

-- a number, or the last value of u64 where the number is greater
abbrev pub saturated : ℕ → ℕ
saturated n = min n (2 ^ 64 - 1)

-- a walk before its first token
abbrev pub begun : ℕ → WalkState
begun unit = record { stack = root_stack; unit = unit; weight = 0 }

-- a walk after one more token
abbrev pub fed : WalkState → Token → WalkState
fed w t = record w { stack = next_stack w.stack t; weight = saturated (w.weight + w.unit) }
