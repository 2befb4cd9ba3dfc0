use Rattle.std.proofs.Common.{◌≡◌, ◌++◌, drop}
use Rattle.ht_cubes.specs.Formula.{excluded, needs}
use Rattle.ht_cubes.proofs.parity.push_exclusion.Given as goal

abbrev pub invariant-pins : goal.invariant-pins
invariant-pins l = l.clause.items ++ excluded (drop l.i l.pins) (drop l.i l.bits) ≡ needs l.fn.rail (excluded l.pins l.bits)
