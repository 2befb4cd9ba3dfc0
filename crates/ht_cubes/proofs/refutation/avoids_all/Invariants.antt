use Rattle.std.proofs.Common.{take}
use Rattle.ht_cubes.specs.Rails.{AvoidsAll, both}
use Rattle.ht_cubes.proofs.refutation.avoids_all.Given as goal

abbrev pub invariant-loop-cube : goal.invariant-loop-cube
invariant-loop-cube l = AvoidsAll (both l.state) (take l.cube-index l.cubes)
