use Rattle.std.proofs.Common.{◌<◌, take}
use Rattle.std.specs.List.{All}
use Rattle.ht_cubes.specs.declared.rail.Rail.{Rail}
use Rattle.ht_close.specs.ShortLines.{short_number}
use Rattle.ht_close.proofs.short.are_short_rails.Given as goal

abbrev pub invariant-loop-rail : goal.invariant-loop-rail
invariant-loop-rail l = All (λ (rail : Rail). rail.dff < short_number) (take l.rail-index l.cube)
