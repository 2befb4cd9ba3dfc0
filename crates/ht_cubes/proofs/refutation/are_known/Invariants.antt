use Rattle.std.proofs.Common.{take}
use Rattle.std.specs.List.{All}
use Rattle.ht_cubes.specs.Rails.{IsKnownRail}
use Rattle.ht_cubes.specs.Cones.{marked}
use Rattle.ht_cubes.proofs.refutation.are_known.Given as goal

abbrev pub invariant-loop-cube : goal.invariant-loop-cube
invariant-loop-cube l = All (All (IsKnownRail l.circuit (marked l.cone))) (take l.cube-index l.cubes)
