use Rattle.std.proofs.Common.{◌∙◌, Some, None, ap, arith}
use Rattle.std.proofs.lemmas.Grind.{common_steps}
use Rattle.ht_tern.specs.Opposite.{are_opposite}
use Rattle.ht_net.specs.declared.net.NetId.{NetId}
use Rattle.ht_net.specs.Frames.Faults.{tern_rules}
use Rattle.ht_group.specs.NetValues.{good_value, faulty_value}
use Rattle.ht_group.proofs.ShownLaws.{shown_at}
use Rattle.ht_group.proofs.group.Group.opposite.Goals as goal

pub returns : goal.returns
returns c = record {
  machines = λ k m below has.
      let g = c.args.self.now in
      let net = c.output_net-net.ensures.net in
      let good = c.good_value.ensures ∙ (ap (λ (n : NetId). good_value g n.0) net
      ∙ shown_at g.circuit (tern_rules None) g.vector g.latches c.args.o c.requires.output) in
      let faulty = c.word.ensures.machines k m below has ∙ (ap (λ (n : NetId). faulty_value g m n.0) net
      ∙ shown_at g.circuit (tern_rules (Some m.fault)) g.vector m.latches c.args.o c.requires.output) in
      c.opposite.ensures k below ∙ (λ i. are_opposite (good i) (faulty i));
  others = λ k below past. grind (arith, common_steps, c.opposite.ensures k below, c.word.ensures.others k below past);
}
