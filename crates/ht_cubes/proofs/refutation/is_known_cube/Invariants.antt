use Rattle.std.proofs.Common.{take}
use Rattle.std.specs.List.{All}
use Rattle.ht_cubes.specs.Rails.{IsKnownRail}
use Rattle.ht_cubes.specs.Cones.{marked}
use Rattle.ht_cubes.proofs.refutation.is_known_cube.Given as goal

abbrev pub invariant-loop-rail : goal.invariant-loop-rail
invariant-loop-rail l = All (IsKnownRail l.circuit (marked l.cone)) (take l.rail-index l.cube)
