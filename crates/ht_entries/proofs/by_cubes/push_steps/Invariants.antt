use Rattle.std.proofs.Common.{◌≡◌, ◌++◌, drop, map}
use Rattle.ht_entries.specs.LineTexts.{lines_text}
use Rattle.ht_entries.specs.ByCubes.{step_line}
use Rattle.ht_entries.proofs.by_cubes.push_steps.Given as goal

abbrev pub invariant-loop-step : goal.invariant-loop-step
invariant-loop-step l = l.text.items ++ lines_text (map step_line (drop l.step-index l.fn.steps))
    ≡ l.fn.text.items ++ lines_text (map step_line l.fn.steps)
