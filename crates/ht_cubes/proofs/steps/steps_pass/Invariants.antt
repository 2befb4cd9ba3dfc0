use Rattle.std.proofs.Common.{◌≡◌, ◌+◌, [], length, drop}
use Rattle.std.specs.Prelude.{◌↔◌}
use Rattle.std.specs.List.{All}
use Rattle.ht_cubes.specs.Steps.{StepsPass}
use Rattle.ht_cubes.specs.Values.{IsBelow, SayFacts}
use Rattle.ht_cubes.proofs.steps.steps_pass.Given as goal

abbrev pub invariant-steps : goal.invariant-steps
invariant-steps l = record {
  long : length l.values.values ≡ l.last + 1;
  clear : SayFacts [] l.values.values;
  below : All (IsBelow (l.last + 1)) l.rows;
  passed : StepsPass l.initial.rows l.steps ↔ StepsPass l.rows (drop l.step-index l.steps);
}
