use Rattle.std.proofs.Common.{take}
use Rattle.std.specs.List.{All}
use Rattle.ht_valid.specs.WritableEntries.{IsShortStep}
use Rattle.ht_close.proofs.short.are_short_steps.Given as goal

abbrev pub invariant-loop-step : goal.invariant-loop-step
invariant-loop-step l = All IsShortStep (take l.step-index l.steps)
