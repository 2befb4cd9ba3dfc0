-- What a search may decide at a node.
use Rattle.std.specs.Prelude.{◌≡◌, ℕ, Bool, false, ◌||◌, IsTrue}
use Rattle.ht_tern.specs.declared.tern.Tern.{Tern}
use Rattle.ht_tern.specs.declared.tern.Tern.TheVariants.{Zero, One, Unk}
use Rattle.ht_tree.specs.Walk.Walks.{Node, Judge, decides, path_of}

-- a variable may get 0 or 1 where `Two` or `Three` decides it, and X where `Three` does
abbrev pub is_decidable : Judge → Node → ℕ → Tern → Bool
is_decidable j n var Zero = j.two n var || j.three n var
is_decidable j n var One = j.two n var || j.three n var
is_decidable j n var Unk = j.three n var

-- The value is legal at the node, and its path doesn't decide the variable.
pub record MayDecide (j : Judge) (n : Node) (var : ℕ) (value : Tern) : Type 0 where
  pub legal : IsTrue (is_decidable j n var value)
  pub undecided : decides (path_of n) var ≡ false
