use Rattle.ht_stems.proofs.ViewLaws.{circuit_told, stuck_told}
use Rattle.ht_stems.proofs.arrivals.Arrivals.is_stuck_already.Goals as goal

pub returns-clause-told : goal.returns-clause-told
returns-clause-told c =
    stuck_told c.self.inside c.args.self.now c.self.view_is c.self.invariant c.args.fault c.has_net_value.result
    c.deref.result.now c.net_of_line-net.result c.from.result c.deref.ensures.value c.net_of_line-net.ensures.net
    c.from.ensures c.has_net_value.ensures

pub returns-clause-circuit : goal.returns-clause-circuit
returns-clause-circuit c = circuit_told c.self.inside c.args.self.now c.self.view_is c.self.invariant
