use Rattle.std.proofs.Common.{◌∙◌, None, ap}
use Rattle.ht_net.specs.declared.net.NetId.{NetId}
use Rattle.ht_net.specs.Frames.Faults.{tern_rules}
use Rattle.ht_group.specs.NetValues.{good_value}
use Rattle.ht_group.proofs.ShownLaws.{shown_at}
use Rattle.ht_group.proofs.group.Group.good_output.Goals as goal

pub returns : goal.returns
returns c =
    let g = c.args.self.now in
    c.good_value.ensures ∙ (ap (λ (n : NetId). good_value g n.0) c.output_net.ensures.net
    ∙ shown_at g.circuit (tern_rules None) g.vector g.latches c.args.o c.requires)
