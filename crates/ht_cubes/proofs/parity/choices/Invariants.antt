use Rattle.std.proofs.Common.{◌≡◌}
use Rattle.ht_cubes.specs.Formula.{choices}
use Rattle.ht_cubes.proofs.parity.choices.Given as goal

abbrev pub invariant-loop-n : goal.invariant-loop-n
invariant-loop-n l = l.rows ≡ choices l._n
