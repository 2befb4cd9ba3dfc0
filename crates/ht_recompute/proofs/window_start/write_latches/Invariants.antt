use Rattle.std.proofs.Common.{◌≡◌, ◌<◌, ℕ, get_or, []}
use Rattle.ht_recompute.specs.WindowStarts.{first_latch_by, window_start}
use Rattle.ht_recompute.proofs.window_start.write_latches.Given as goal

abbrev pub invariant-loop-j : goal.invariant-loop-j
invariant-loop-j l = (k : ℕ) → k < l.j → get_or l.latches k []
    ≡ first_latch_by (window_start l.start) l.decisions l.first l.count k
