use Rattle.std.proofs.Common.{◌≡◌, drop}
use Rattle.ht_recompute.specs.WantedLatches.{in_both, matches_in, wanted_in}
use Rattle.ht_recompute.proofs.cube.cube_status.Given as goal

abbrev pub invariant-loop-j : goal.invariant-loop-j
invariant-loop-j l = in_both l.met (matches_in (wanted_in (drop l.j l.cube) (drop l.j l.sets)))
    ≡ matches_in (wanted_in l.cube l.sets)
