use Rattle.std.proofs.Common.{subst}
use Rattle.std.specs.Option.{ForSome}
use Rattle.ht_net.specs.Circuit.Netlist.{Netlist}
use Rattle.ht_compact.specs.DetectedFaults.{IsMissed}
use Rattle.ht_compact.specs.GradedLists.{shorter}
use Rattle.ht_compact.proofs.trial.lost_among.Goals as goal

pub returns-clause-lost : goal.returns-clause-lost
returns-clause-lost c =
    let graded = c.args.graded.now in
    subst (λ (n : Netlist). ForSome c.in_ok-lost.lost (IsMissed n graded.wanted.items
    (shorter graded c.args.part.from c.args.part.to))) c.requires.circuit c.in_ok-lost.ensures.lost
