use Rattle.std.specs.Prelude.{set}
use Rattle.std.proofs.Common.{◌≡◌, ◌/◌, ◌∙◌, ◌++◌, ◌∷◌, [], true, false, get_or, ap, sym, subst, refl, arith}
use Rattle.ht_group.specs.Differences.{with_differences}
use Rattle.ht_group.specs.GroupOf.{group_in, group_of}
use Rattle.ht_group.specs.GroupView.{GroupView}
use Rattle.ht_group.specs.MachineWords.{IsWordIn, machine_but}
use Rattle.ht_group.specs.declared.machines.Machines.{Machines}
use Rattle.ht_group.specs.declared.shared_frame.SharedFrame.{SharedFrame}
use Rattle.ht_group.proofs.AddLaws.{next_room, written_group, added_filled, added_machines, same_filled}
use Rattle.ht_group.proofs.GroupLaws.{group_room}
use Rattle.ht_group.proofs.group.Group.add.Goals as goal

pub index_mut-requires : goal.index_mut-requires
index_mut-requires c =
    let a = c.self.inside in
    let few = group_room a c.self.invariant c.args.self.now c.self.view_is c.requires.room in
    omega (arith, few, c.self.invariant.word_count)

pub admit-requires-clause-word : goal.admit-requires-clause-word
admit-requires-clause-word c =
    let a = c.self.inside in
    let g = c.self.invariant in
    let few = group_room a g c.args.self.now c.self.view_is c.requires.room in
    subst (λ (m : Machines). IsWordIn a.frame m) (sym c.index_mut.ensures.value)
    (g.words (a.count / 64) c.index_mut.result.now (omega (arith, few)))

pub admit-requires-clause-room : goal.admit-requires-clause-room
admit-requires-clause-room c =
    let a = c.self.inside in
    let g = c.self.invariant in
    let few = group_room a g c.args.self.now c.self.view_is c.requires.room in
    next_room a.frame.circuit.now a.count a.words.items c.index_mut.result.now c.index_mut.result.now g.word_count few
    c.index_mut.ensures.value g.filled

-- out of memory: the same machines
pub invariant_of-self : goal.invariant_of-self
invariant_of-self c =
    let a = c.self.inside in
    let g = c.self.invariant in
    let few = group_room a g c.args.self.now c.self.view_is c.requires.room in
    let e = c.in_err-admit.ensures in
    written_group a g few c.index_mut.result.now c.admit.new.self c.index_mut.ensures.value _ refl refl e.more e.word
    (same_filled a.frame.circuit.now a.count a.words.items c.index_mut.result.now c.admit.new.self g.word_count few
    c.index_mut.ensures.value g.filled e.err)
    g.few (λ is r. ap (λ (f : SharedFrame). get_or f.pending r false) e.idle ∙ g.settled is r)

pub invariant_of-self-2 : goal.invariant_of-self-2
invariant_of-self-2 c =
    let a = c.self.inside in
    let few = group_room a c.self.invariant c.args.self.now c.self.view_is c.requires.room in
    let added = c.in_ok-admit.ensures in
    let filled = added_filled a.frame.circuit.now a.count a.words.items c.index_mut.result.now c.admit.new.self
    c.self.invariant.word_count few c.index_mut.ensures.value c.self.invariant.filled
    (machine_but a.frame c.args.fault c.args.diffs.now) added.ok in
    written_group a c.self.invariant few c.index_mut.result.now c.admit.new.self c.index_mut.ensures.value _ refl refl
    added.more added.word filled (omega (arith, few)) (λ is. let bad : false ≡ true = is in cc)

pub returns-clause-ok : goal.returns-clause-ok
returns-clause-ok c =
    let a = c.self.inside in
    let g = c.self.invariant in
    let few = group_room a g c.args.self.now c.self.view_is c.requires.room in
    let added = c.in_ok-admit.ensures in
    let machines = added_machines a.frame.circuit.now a.count a.words.items c.index_mut.result.now c.admit.new.self
    g.word_count few c.index_mut.ensures.value g.filled (machine_but a.frame c.args.fault c.args.diffs.now) added.ok in
    ap (λ (f : SharedFrame). group_in f (set a.words.items (a.count / 64) c.admit.new.self) false) added.more.same
    ∙ ((λ i. record (group_of a) { machines = machines i; settled = false })
    ∙ ap (λ (v : GroupView). record v {
      machines = v.machines ++ record { fault = c.args.fault; latches = with_differences v.latches c.args.diffs.now }
          ∷ [];
      settled = false;
    }) c.self.view_is)
