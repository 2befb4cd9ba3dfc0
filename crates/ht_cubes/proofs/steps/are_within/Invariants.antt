use Rattle.std.proofs.Common.{take}
use Rattle.std.specs.List.{All}
use Rattle.ht_cubes.specs.declared.clause_step.ClauseStep.{ClauseStep}
use Rattle.ht_cubes.specs.Steps.{IsWithin}
use Rattle.ht_cubes.proofs.steps.are_within.Given as goal

abbrev pub invariant-loop-step : goal.invariant-loop-step
invariant-loop-step l = All (λ (s : ClauseStep). IsWithin l.last s.literals) (take l.step-index l.steps)
