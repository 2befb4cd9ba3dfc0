use Rattle.std.proofs.Common.{◌∙◌, Some, None, ap}
use Rattle.ht_net.specs.declared.net.NetId.{NetId}
use Rattle.ht_net.specs.Frames.Faults.{tern_rules}
use Rattle.ht_group.specs.NetValues.{good_value, faulty_value}
use Rattle.ht_group.proofs.ShownLaws.{shown_at}
use Rattle.ht_group.proofs.group.Group.shown.Goals as goal

pub returns : goal.returns
returns c = record {
  machines = λ k m below has.
      let g = c.args.self.now in
      c.word.ensures.machines k m below has
      ∙ (ap (λ (n : NetId). faulty_value g m n.0) c.output_net-net.ensures.net
      ∙ shown_at g.circuit (tern_rules (Some m.fault)) g.vector m.latches c.args.o c.requires.output);
  others = λ k below past.
      let g = c.args.self.now in
      c.word.ensures.others k below past
      ∙ (ap (λ (n : NetId). good_value g n.0) c.output_net-net.ensures.net
      ∙ shown_at g.circuit (tern_rules None) g.vector g.latches c.args.o c.requires.output);
}
