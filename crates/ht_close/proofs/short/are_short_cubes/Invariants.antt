use Rattle.std.proofs.Common.{List, take}
use Rattle.std.specs.List.{All}
use Rattle.ht_cubes.specs.declared.rail.Rail.{Rail}
use Rattle.ht_entries.specs.ProofLineLengths.{IsShortProofLine}
use Rattle.ht_entries.specs.ByCubes.{cube_text}
use Rattle.ht_close.proofs.short.are_short_cubes.Given as goal

abbrev pub invariant-loop-cube : goal.invariant-loop-cube
invariant-loop-cube l = All (λ (cube : List Rail). IsShortProofLine (cube_text cube)) (take l.cube-index l.cubes)
