-- Which variables are undecided, by the values that a path decides.
use Rattle.std.proofs.Common.{◌≡◌, ◌∙◌, ℕ, List, Bool, true, false, not, Option, sym, ap}
use Rattle.std.specs.Prelude.{is_some}
use Rattle.ht_tern.specs.declared.tern.Tern.{Tern}
use Rattle.ht_tree.specs.declared.token.Assign3.{Assign3}
use Rattle.ht_tree.specs.Window.Decisions.{decided_value}
use Rattle.ht_tree.specs.Walk.Walks.{decides}
use Rattle.ht_tree.proofs.DecidedLaws.{decides_value}

flip : (r b : Bool) → b ≡ not r → r ≡ not b
flip true b h = sym (ap not h)
flip false b h = sym (ap not h)

-- a variable is undecided where it has no value
pub undecided_by : (path : List Assign3) (var : ℕ) (o : Option Tern) (r : Bool) → is_some o ≡ not r
    → o ≡ decided_value path var → r ≡ not (decides path var)
undecided_by path var o r tells is =
    flip r (is_some o) tells ∙ ap not (ap is_some is ∙ sym (decides_value path var))
