use Rattle.std.proofs.Common.{◌≡◌, take}
use Rattle.std.specs.List.{flat_map}
use Rattle.ht_cubes.specs.Formula.{without_constants}
use Rattle.ht_cubes.proofs.formula.without_constants.Given as goal

abbrev pub invariant-clauses : goal.invariant-clauses
invariant-clauses l = l.rows ≡ flat_map without_constants (take l.i l.clauses)
