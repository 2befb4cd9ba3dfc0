use Rattle.std.proofs.Common.{◌≡◌, drop}
use Rattle.ht_recompute.specs.Differences.{in_either, differences_in}
use Rattle.ht_recompute.proofs.differences.output_differences.Given as goal

abbrev pub invariant-loop-output : goal.invariant-loop-output
invariant-loop-output l =
    in_either l.shown (differences_in (drop l.output-index l.outputs)) ≡ differences_in l.outputs
