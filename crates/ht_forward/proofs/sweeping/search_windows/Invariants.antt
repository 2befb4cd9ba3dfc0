use Rattle.std.proofs.Common.{◌≡◌}
use Rattle.ht_window.specs.Starts.{start_of}
use Rattle.ht_forward.specs.Sweeps.{sweep_guide}
use Rattle.ht_forward.proofs.LengthsLaws.{IsClosedTo}
use Rattle.ht_forward.proofs.sweeping.search_windows.Given as goal

abbrev pub invariant-lengths : goal.invariant-lengths
invariant-lengths l = (l.bases.circuit ≡ l.fn.bases.circuit)
    × IsClosedTo (sweep_guide l.fn.bases.circuit l.fault (start_of l.start)) l.budget l.frames l.left l.walks.items

abbrev pub decreases-lengths : goal.decreases-lengths
decreases-lengths l = l.left
