use Rattle.std.proofs.Common.{◌≡◌, List}
use Rattle.ht_tree.specs.declared.told.Told.{Told}
use Rattle.ht_tree.specs.Clause.Clauses.{literals_of_each}
use Rattle.ht_oneframe.proofs.MarkLaws.{unmarked}
use Rattle.ht_oneframe.proofs.RoundLaws.{AreRounds}
use Rattle.ht_invariant.specs.FromStates.{guide_from}
use Rattle.ht_invariant.proofs.refutation.refute_under.Given as goal

abbrev pub invariant-rounds : goal.invariant-rounds
invariant-rounds l = (l.bases.circuit ≡ l.fn.bases.circuit)
    × ((chain : List Told) × AreRounds l.fn.bases.circuit l.fault
    (guide_from l.fn.bases.circuit l.fault (literals_of_each l.clauses)) l.budget l.marks.items chain)

abbrev pub decreases-rounds : goal.decreases-rounds
decreases-rounds l = unmarked l.marks.items
