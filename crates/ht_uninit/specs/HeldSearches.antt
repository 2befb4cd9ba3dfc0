-- What the searches for nets that aren't unknown come to, where a set of flip-flops is held unknown.
use Rattle.std.specs.Prelude.{◌≡◌, ℕ, List, [], ◌∷◌, flat_map, Option, Some, None}
use Rattle.std.specs.List.{range_with_len}
use Rattle.ht_tern.specs.declared.tern.Tern.{Tern}
use Rattle.ht_net.specs.Circuit.Netlist.{Netlist, first_gate_net}
use Rattle.ht_tree.specs.declared.token.Assign3.{Assign3}
use Rattle.ht_tree.specs.declared.token.Token.{Token}
use Rattle.ht_tree.specs.Window.Decisions.{decided_value}
use Rattle.ht_tree.specs.Walk.Searches.{FindsAt, Closes, SpendsAt, node_at}
use Rattle.ht_uninit.specs.HeldWindows.{held_guide}

-- the decision of a variable, where a path decided it
abbrev pub set_of : ℕ → Option Tern → List Assign3
set_of var None = []
set_of var (Some value) = record { var = var; value = value } ∷ []

-- what a path decided of the variables below a bound, in their order
abbrev pub sets_below : List Assign3 → ℕ → List Assign3
sets_below path bound = flat_map (λ var. set_of var (decided_value path var)) (range_with_len 0 bound)

-- The search finds decisions under which net x isn't unknown.
pub record FindsKnown (c : Netlist) (budget : ℕ) (u : List ℕ) (x : ℕ) (sets : List Assign3) : Type 0 where
  pub tokens : List Token
  pub path : List Assign3
  pub found : FindsAt (held_guide c u x) budget 1 tokens (node_at path)
  pub listed : sets ≡ sets_below path (first_gate_net c)

-- the search closes: net x is unknown
abbrev pub ClosesUnknown : Netlist → ℕ → List ℕ → ℕ → List Token → Type 0
ClosesUnknown c budget u x tokens = Closes (held_guide c u x) budget 1 tokens

-- the search spends its budget
abbrev pub SpendsHeld : Netlist → ℕ → List ℕ → ℕ → List Token → Type 0
SpendsHeld c budget u x tokens = (path : List Assign3) × SpendsAt (held_guide c u x) budget 1 tokens (node_at path)
