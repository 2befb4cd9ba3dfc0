use Rattle.std.proofs.Common.{◌≡◌, length, subst}
use Rattle.ht_verdicts.specs.Standing.{AllDecide, VerdictsView}
use Rattle.ht_verdicts.proofs.verdicts.Verdicts.entries_decide.Goals as goal

-- Each entry that is kept decides its fault.
pub returns-clause-decide : goal.returns-clause-decide
returns-clause-decide c = subst AllDecide c.self.view_is c.self.invariant.decide
