use Rattle.std.proofs.Common.{refl, inl, inr}
use Rattle.ht_stems.specs.ArrivalsView.{good_of_net}
use Rattle.ht_stems.proofs.FaultFrames.{fault_shows}
use Rattle.ht_stems.proofs.PassLaws.{not_told}
use Rattle.ht_stems.proofs.WithinLaws.{fault_within}
use Rattle.ht_stems.proofs.arrivals.Arrivals.fault.Goals as goal

dies : goal.returns-then-is_stuck_already-clause-end
dies c = inl (c.is_stuck_already.ensures.told.0 c.if-is_stuck_already.true, refl)

goes_on : goal.returns-clause-end
goes_on c = inr
    (not_told c.is_stuck_already.result c.is_stuck_already.ensures.told c.if-is_stuck_already.false, c.site.ensures.end)

pub returns-then-is_stuck_already-clause-end : goal.returns-then-is_stuck_already-clause-end
returns-then-is_stuck_already-clause-end c = dies c

pub returns-clause-end : goal.returns-clause-end
returns-clause-end c = goes_on c

pub returns-then-is_stuck_already-clause-shows : goal.returns-then-is_stuck_already-clause-shows
returns-then-is_stuck_already-clause-shows c = λ vector latches are.
    fault_shows c.args.self.now.circuit c.is_stuck_already.ensures.circuit vector latches (good_of_net c.args.self.now)
    are
    c.args.fault _ c.requires (dies c)

pub returns-clause-shows : goal.returns-clause-shows
returns-clause-shows c = λ vector latches are.
    fault_shows c.args.self.now.circuit c.is_stuck_already.ensures.circuit vector latches (good_of_net c.args.self.now)
    are
    c.args.fault c.site.result c.requires (goes_on c)

pub returns-then-is_stuck_already-clause-within : goal.returns-then-is_stuck_already-clause-within
returns-then-is_stuck_already-clause-within c =
    fault_within c.args.self.now.circuit (good_of_net c.args.self.now) c.args.fault _ c.requires (dies c)

pub returns-clause-within : goal.returns-clause-within
returns-clause-within c =
    fault_within c.args.self.now.circuit (good_of_net c.args.self.now) c.args.fault c.site.result c.requires (goes_on c)
