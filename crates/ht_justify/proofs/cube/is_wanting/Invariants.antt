use Rattle.std.proofs.Common.{◌≡◌, drop}
use Rattle.ht_tree.specs.Record.AimedAttempts.{is_wanting}
use Rattle.ht_justify.proofs.cube.is_wanting.Given as goal

abbrev pub invariant-loop-value : goal.invariant-loop-value
invariant-loop-value l = is_wanting (drop l.value-index l.cube) ≡ is_wanting l.fn.cube
