use Rattle.std.specs.Prelude.{flat_map}
use Rattle.std.specs.Vec.{with_items}
use Rattle.std.proofs.Common.{◌≡◌, ◌≤◌, ◌*◌, ◌∙◌, List, ℕ, length, get_or, ap, sym, subst, true, arith}
use Rattle.std.proofs.lemmas.List.{with_items_is}
use Rattle.ht_lanes.specs.Lanes.{Lanes}
use Rattle.ht_group.specs.GroupOf.{group_in, group_of}
use Rattle.ht_group.specs.GroupView.{GroupView, words_for}
use Rattle.ht_group.specs.MachineWords.{AreMachinesKept, machines_of}
use Rattle.ht_group.specs.declared.machines.Machines.{Machines}
use Rattle.ht_group.specs.declared.shared_frame.SharedFrame.{SharedFrame}
use Rattle.ht_group.proofs.ChangeLaws.{same_machines}
use Rattle.ht_group.proofs.GroupLaws.{group_count}
use Rattle.ht_group.proofs.WordsLaws.{in_frame, is_group, settled_words, kept_filled, kept_machines}
use Rattle.ht_group.proofs.group.Group.settle.Goals as goal

pub invariant_of-self : goal.invariant_of-self
invariant_of-self c =
    let a = c.self.inside in
    let g = c.self.invariant in
    let s = c.settle-evaluated.ensures in
    let new = c.settle-evaluated.new.words in
    let value = c.deref_mut.ensures.value in
    let used = c.words_for.ensures in
    let long : length new ≡ length a.words.items = s.words.count ∙ ap (λ (l : List Machines). length l) value in
    let kept : (w : ℕ) (d : Machines) → AreMachinesKept (get_or a.words.items w d) (get_or new w d) =
    subst (λ (l : List Machines). (w : ℕ) (d : Machines) → AreMachinesKept (get_or l w d) (get_or new w d)) value
    (same_machines a.frame.circuit.now a.frame.schedule c.settle-evaluated.new.frame.pending c.words_for.result _ new
    s.words)
    in
    in_frame _ (record a.frame { pending = c.settle-evaluated.new.frame.pending }) s.frame
    (is_group _ new g.frame.circuit g.frame.schedule g.frame.good (with_items_is a.words new (omega (arith, long)))
    (long ∙ g.word_count)
    (settled_words a.frame.circuit.now a.frame.schedule a.frame.good a.count a.frame.pending
    c.settle-evaluated.new.frame.pending a.words.items new
    g.word_count long g.filled g.words
    (λ w d past. s.words.rest w d (omega (arith, past, used)) ∙ ap (λ (l : List Machines). get_or l w d) value)
    (λ w d below. (s.words.each w d (omega (arith, below, used))).running) kept)
    (kept_filled a.count a.words.items new long g.filled kept) g.few (s.marks ∙ g.frame.marks)
    (ap (λ (l : List Lanes). length l) (with_items_is a.pins c.settle-evaluated.new.pins (omega arith))
    ∙ (c.settle-evaluated.auto.pins ∙ (ap (λ (l : List Lanes). length l) c.deref_mut-2.ensures.value ∙ g.room)))
    (ap (λ (l : List (List Lanes)). length l) (with_items_is a.fours c.settle-evaluated.new.fours (omega arith))
    ∙ (c.settle-evaluated.auto.fours
    ∙ (ap (λ (l : List (List Lanes)). length l) c.deref_mut-3.ensures.value ∙ g.four_room)))
    (λ is. s.none))

pub returns-clause-ok : goal.returns-clause-ok
returns-clause-ok c =
    let a = c.self.inside in
    let s = c.settle-evaluated.ensures in
    let new = c.settle-evaluated.new.words in
    let value = c.deref_mut.ensures.value in
    let long : length new ≡ length a.words.items = s.words.count ∙ ap (λ (l : List Machines). length l) value in
    let kept : (w : ℕ) (d : Machines) → AreMachinesKept (get_or a.words.items w d) (get_or new w d) =
    subst (λ (l : List Machines). (w : ℕ) (d : Machines) → AreMachinesKept (get_or l w d) (get_or new w d)) value
    (same_machines a.frame.circuit.now a.frame.schedule c.settle-evaluated.new.frame.pending c.words_for.result _ new
    s.words)
    in
    let machines = ap (flat_map (machines_of a.frame.circuit.now)) (with_items_is a.words new (omega (arith, long)))
    ∙ kept_machines a.frame.circuit.now a.words.items new long kept in
    ap (λ (f : SharedFrame). group_in f (with_items a.words new).items true) s.frame
    ∙ ((λ i. record (group_of a) { machines = machines i; settled = true })
    ∙ ap (λ (v : GroupView). record v { settled = true }) c.self.view_is)

pub returns-clause-steps : goal.returns-clause-steps
returns-clause-steps c =
    let a = c.self.inside in
    let n = c.settle-evaluated.result in
    let used = c.words_for.ensures ∙ ap words_for (sym (group_count a c.self.invariant)) in
    subst (λ (v : GroupView). n ≤ length v.circuit.gates * words_for (length v.machines)) c.self.view_is
    (subst (λ (m : ℕ). n ≤ length a.frame.circuit.now.gates * m) used c.settle-evaluated.ensures.steps)
