use Rattle.std.proofs.Common.{◌∙◌, None, ap, get_or}
use Rattle.ht_net.specs.declared.net.NetId.{NetId}
use Rattle.ht_net.specs.Circuit.Netlist.{no_net}
use Rattle.ht_net.specs.Frames.Faults.{tern_rules}
use Rattle.ht_group.specs.NetValues.{good_value}
use Rattle.ht_group.proofs.ShownLaws.{next_at, good_data_pin}
use Rattle.ht_group.proofs.group.Group.good_next.Goals as goal

pub returns : goal.returns
returns c =
    let g = c.args.self.now in
    c.good_value.ensures ∙ (ap (λ (n : NetId). good_value g n.0) c.data_net.ensures.net
    ∙ (good_data_pin c.args.j (good_value g (get_or g.circuit.dffs c.args.j no_net).0)
    ∙ next_at g.circuit (tern_rules None) g.vector g.latches c.args.j c.requires))
