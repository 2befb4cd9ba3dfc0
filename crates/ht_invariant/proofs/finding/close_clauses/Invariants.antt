use Rattle.std.proofs.Common.{◌≡◌, [], true, vec_len}
use Rattle.ht_invariant.specs.Trials.{knows_each}
use Rattle.ht_invariant.proofs.ClosingRoundLaws.{RoundsLead}
use Rattle.ht_invariant.proofs.finding.close_clauses.Given as goal

abbrev pub invariant-rounds : goal.invariant-rounds
invariant-rounds l = (l.current.window ≡ l.fn.window.window) × (l.current.decisions ≡ [])
    × (knows_each l.fn.window.window.circuit l.clauses.items ≡ true)
    × RoundsLead l.fn.window.window.circuit l.budget l.fn.clauses.items l.clauses.items

abbrev pub decreases-rounds : goal.decreases-rounds
decreases-rounds l = vec_len l.clauses
