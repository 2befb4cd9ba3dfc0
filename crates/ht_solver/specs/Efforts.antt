use Rattle.std.specs.Prelude.{◌≤◌}
use Rattle.ht_solver.specs.declared.effort.Effort.{Effort}

-- Neither count of an effort is greater than that of another: what is left is no more than what was given.
pub record IsNoMore (a b : Effort) : Type 0 where
  pub conflicts : a.conflicts ≤ b.conflicts
  pub propagations : a.propagations ≤ b.propagations
