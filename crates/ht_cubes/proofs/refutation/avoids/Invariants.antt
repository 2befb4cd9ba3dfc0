use Rattle.std.proofs.Common.{take}
use Rattle.std.specs.List.{All}
use Rattle.ht_cubes.specs.Rails.{Holds, both}
use Rattle.ht_cubes.proofs.refutation.avoids.Given as goal

abbrev pub invariant-loop-rail : goal.invariant-loop-rail
invariant-loop-rail l = All (Holds (both l.state)) (take l.rail-index l.cube)
