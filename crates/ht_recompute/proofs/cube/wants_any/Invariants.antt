use Rattle.std.proofs.Common.{◌≡◌, drop}
use Rattle.std.specs.List.{list_any}
use Rattle.ht_tree.specs.Window.WindowStatus.{is_definite}
use Rattle.ht_recompute.proofs.cube.wants_any.Given as goal

abbrev pub invariant-loop-value : goal.invariant-loop-value
invariant-loop-value l = list_any is_definite (drop l.value-index l.cube) ≡ list_any is_definite l.cube
