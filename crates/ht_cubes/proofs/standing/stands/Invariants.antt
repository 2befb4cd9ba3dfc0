use Rattle.std.proofs.Common.{take}
use Rattle.ht_cubes.specs.Values.{StandsSo}
use Rattle.ht_cubes.proofs.standing.stands.Given as goal

abbrev pub invariant-loop-literal : goal.invariant-loop-literal
invariant-loop-literal l = StandsSo l.values (take l.literal-index l.clause) l.left
