use Rattle.std.proofs.Common.{◌≡◌}
use Rattle.ht_forward.proofs.LengthsLaws.{IsClosedTo}
use Rattle.ht_forward.proofs.lengths.search_lengths.Given as goal

abbrev pub invariant-lengths : goal.invariant-lengths
invariant-lengths g l = (g.S.LengthSearch.subject l.search ≡ g.S.LengthSearch.subject l.fn.search)
    × IsClosedTo (g.S.LengthSearch.guide (g.S.LengthSearch.subject l.fn.search)) l.budget l.frames l.left l.walks.items

abbrev pub decreases-lengths : goal.decreases-lengths
decreases-lengths g l = l.left
