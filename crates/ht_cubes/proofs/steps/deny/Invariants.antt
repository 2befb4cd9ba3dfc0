use Rattle.std.proofs.Common.{◌≡◌, length, map, take}
use Rattle.ht_trail.specs.Trails.{IsLater}
use Rattle.ht_cubes.specs.Values.{SayFacts}
use Rattle.ht_cubes.specs.Formula.{complement}
use Rattle.ht_cubes.proofs.steps.deny.Given as goal

abbrev pub invariant-loop-literal : goal.invariant-loop-literal
invariant-loop-literal l = record {
  long : length l.values.values ≡ length l.initial.values.values;
  later : IsLater l.initial.values l.values;
  say : SayFacts (map complement (take l.literal-index l.clause)) l.values.values;
}
