use Rattle.std.specs.List.{slice_get}
use Rattle.std.proofs.Common.{◌≡◌, ◌∙◌, ◌+◌, ◌*◌, Some, None, ap, sym, subst, arith, length}
use Rattle.ht_net.specs.declared.net.NetId.{NetId}
use Rattle.ht_net.specs.Frames.Faults.{tern_rules}
use Rattle.ht_group.specs.GroupView.{GroupView, lane_count}
use Rattle.ht_group.specs.NetValues.{good_value, faulty_value}
use Rattle.ht_group.specs.StuckTables.{AreStuck}
use Rattle.ht_group.specs.declared.machines.Machines.{Machines}
use Rattle.ht_group.proofs.ShownLaws.{next_at}
use Rattle.ht_group.proofs.GroupLaws.{used_word, word_inside, word_stuck, fault_of, spare_lane}
use Rattle.ht_group.proofs.group.Group.next.Goals as goal

pub index-requires : goal.index-requires
index-requires c =
    let used = used_word c.self.inside c.self.invariant c.args.self.now c.self.view_is c.args.w c.requires.word in
    omega (arith, word_inside c.self.inside c.self.invariant c.args.w used)

pub data_pin-requires-clause-stuck : goal.data_pin-requires-clause-stuck
data_pin-requires-clause-stuck c =
    let used = used_word c.self.inside c.self.invariant c.args.self.now c.self.view_is c.args.w c.requires.word in
    subst (λ (m : Machines). AreStuck c.self.inside.frame.circuit.now m.lines) (sym c.index.ensures)
    (word_stuck c.self.inside c.self.invariant c.args.w c.index.result.now used)

pub returns : goal.returns
returns c = record {
  machines = λ k m below has.
      let g = c.args.self.now in
      let a = c.self.inside in
      let j = c.args.j in
      let used = used_word a c.self.invariant c.args.self.now c.self.view_is c.args.w c.requires.word in
      let net = c.data_net.ensures.net in
      let held = c.word-word.ensures.machines k m below has ∙ ap (λ (n : NetId). faulty_value g m n.0) net in
      let fault : slice_get c.index.result.now.lines.faults.items k ≡ Some m.fault =
      ap (λ (o : Machines). slice_get o.lines.faults.items k) c.index.ensures
      ∙ fault_of a c.self.invariant c.args.w c.index.result.now used k m below
      (ap (λ (v : GroupView). slice_get v.machines (lane_count * c.args.w + k)) c.self.view_is ∙ has) in
      c.data_pin.ensures k below
      ∙ ((λ i. (tern_rules (fault i)).data_pin j (held i))
      ∙ next_at g.circuit (tern_rules (Some m.fault)) g.vector m.latches j c.requires.latch);
  others = λ k below past.
      let g = c.args.self.now in
      let a = c.self.inside in
      let j = c.args.j in
      let used = used_word a c.self.invariant c.args.self.now c.self.view_is c.args.w c.requires.word in
      let net = c.data_net.ensures.net in
      let held = c.word-word.ensures.others k below past ∙ ap (λ (n : NetId). good_value g n.0) net in
      let count = ap (λ (v : GroupView). length v.machines) c.self.view_is in
      let none : slice_get c.index.result.now.lines.faults.items k ≡ None =
      ap (λ (o : Machines). slice_get o.lines.faults.items k) c.index.ensures
      ∙ spare_lane a c.self.invariant c.args.w c.index.result.now used k below (omega (arith, past, count)) in
      c.data_pin.ensures k below
      ∙ ((λ i. (tern_rules (none i)).data_pin j (held i))
      ∙ next_at g.circuit (tern_rules None) g.vector g.latches j c.requires.latch);
}
