use Rattle.std.proofs.Common.{◌<◌, ◌∙◌, ℕ, length, get_or, ap, arith}
use Rattle.std.proofs.lemmas.List.{get_or_default}
use Rattle.ht_tern.specs.declared.tern.Tern.TheVariants.{Unk}
use Rattle.ht_net.specs.Circuit.Netlist.{net_count}
use Rattle.ht_group.specs.GroupView.{GroupView}
use Rattle.ht_group.specs.NetValues.{good_value}
use Rattle.ht_group.proofs.GroupLaws.{good_of}
use Rattle.ht_group.proofs.group.Group.good_value.Goals as goal

pub returns : goal.returns
returns c =
    let a = c.self.inside in
    let g = c.self.invariant in
    let x = c.args.net.0 in
    let size = ap (λ (v : GroupView). net_count v.circuit) c.self.view_is in
    let known : x < net_count a.frame.circuit.now = omega (arith, c.requires, size) in
    let inside : x < length a.frame.good.values.items = omega (arith, known, g.frame.good.room.value_count) in
    c.index-2.ensures
    ∙ (ap (λ (n : ℕ). get_or a.frame.good.values.items n c.index-2.result.now) c.index.ensures
    ∙ (get_or_default a.frame.good.values.items x c.index-2.result.now Unk inside
    ∙ (good_of a g x known ∙ ap (λ (v : GroupView). good_value v x) c.self.view_is)))
