use Rattle.std.proofs.Common.{◌∙◌, List, get_or, ap}
use Rattle.ht_stems.specs.declared.net_ends.NetEnds.{NetEnds}
use Rattle.ht_stems.specs.NetEnds.{end_at, no_ends}
use Rattle.ht_stems.specs.ArrivalsView.{good_of_net}
use Rattle.ht_stems.proofs.ArrivalLaws.{arrival_shows}
use Rattle.ht_stems.proofs.ViewLaws.{circuit_told, net_told}
use Rattle.ht_stems.proofs.arrivals.Arrivals.net.Goals as goal

ends : goal.returns-clause-end
ends c = net_told c.self.inside c.args.self.now c.self.view_is c.self.invariant c.args.net.0 c.args.value
    c.end_in.result c.requires
    (c.end_in.ensures
    ∙ ap (λ (l : List NetEnds). end_at (get_or l c.args.net.0 no_ends) c.args.value) c.deref.ensures.value)

pub returns-clause-end : goal.returns-clause-end
returns-clause-end c = ends c

pub returns-clause-shows : goal.returns-clause-shows
returns-clause-shows c = λ vector latches are.
    arrival_shows c.args.self.now.circuit (circuit_told c.self.inside c.args.self.now c.self.view_is c.self.invariant)
    vector latches (good_of_net c.args.self.now) are c.args.net.0 c.args.value c.end_in.result (ends c) c.requires
