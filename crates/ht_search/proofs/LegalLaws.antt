-- Each value of the chosen variable is legal.
use Rattle.std.proofs.Common.{ℕ, Bool, true, false}
use Rattle.std.proofs.lemmas.Bool.{or_left, or_right}
use Rattle.ht_tern.specs.declared.tern.Tern.{Tern}
use Rattle.ht_tern.specs.declared.tern.Tern.TheVariants.{Zero, One, Unk}
use Rattle.ht_tern.specs.Gate.{tern_of}
use Rattle.ht_tree.specs.declared.token.Token.TheVariants as token
use Rattle.ht_tree.specs.Walk.Walks.{Node, Judge, Fits}
use Rattle.ht_search.specs.Legal.{MayDecide}

-- where `Two` fits, its variable may get either bit
pub may_two : (j : Judge) (n : Node) (var : ℕ) (first b : Bool) → Fits j n (token.Two var first)
    → MayDecide j n var (tern_of b)
may_two j n var first true fit = record {
  legal = or_left (j.two n var) (j.three n var) fit.1;
  undecided = fit.2;
}
may_two j n var first false fit = record {
  legal = or_left (j.two n var) (j.three n var) fit.1;
  undecided = fit.2;
}

-- where `Three` fits, its variable may get any of the three values
pub may_three : (j : Judge) (n : Node) (var : ℕ) (value : Tern) → Fits j n (token.Three var) → MayDecide j n var value
may_three j n var Zero fit = record {
  legal = or_right (j.two n var) (j.three n var) fit.1;
  undecided = fit.2;
}
may_three j n var One fit = record {
  legal = or_right (j.two n var) (j.three n var) fit.1;
  undecided = fit.2;
}
may_three j n var Unk fit = record { legal = fit.1; undecided = fit.2 }
