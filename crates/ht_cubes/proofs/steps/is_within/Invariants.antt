use Rattle.std.proofs.Common.{take}
use Rattle.ht_cubes.specs.Steps.{IsWithin}
use Rattle.ht_cubes.proofs.steps.is_within.Given as goal

abbrev pub invariant-loop-literal : goal.invariant-loop-literal
invariant-loop-literal l = IsWithin l.last (take l.literal-index l.clause)
