use Rattle.std.specs.Prelude.{flat_map}
use Rattle.std.proofs.Common.{◌≡◌, ◌<◌, ◌≤◌, ◌∙◌, List, [], ℕ, true, length, get_or, ap, subst, arith}
use Rattle.std.proofs.lemmas.List.{with_items_is}
use Rattle.ht_group.specs.GroupOf.{group_of}
use Rattle.ht_group.specs.GroupView.{GroupView, words_for}
use Rattle.ht_group.specs.MachineWords.{AreFilled, IsRestored, machines_of}
use Rattle.ht_group.specs.declared.machines.Machines.{Machines}
use Rattle.ht_group.proofs.WordsLaws.{still_group, cleared_words, cleared_filled, no_machines}
use Rattle.ht_group.proofs.group.Group.clear.Goals as goal

long : (c : goal.After-self-3-1) → length c.clear_words.new.words ≡ length c.self.inside.words.items
long c = c.clear_words.ensures.count ∙ ap (λ (l : List Machines). length l) c.deref_mut.ensures.value

rest : (c : goal.After-self-3-1) (w : ℕ) (d : Machines) → words_for c.self.inside.count ≤ w
    → get_or c.clear_words.new.words w d ≡ get_or c.self.inside.words.items w d
rest c w d past =
    c.clear_words.ensures.rest w d (omega (arith, past, c.words_for.ensures))
    ∙ ap (λ (l : List Machines). get_or l w d) c.deref_mut.ensures.value

back : (c : goal.After-self-3-1) (w : ℕ) (d : Machines) → w < words_for c.self.inside.count
    → IsRestored c.self.inside.frame.circuit.now (get_or c.self.inside.words.items w d)
    (get_or c.clear_words.new.words w d)
back c w d used =
    subst (λ (l : List Machines). IsRestored c.self.inside.frame.circuit.now (get_or l w d)
    (get_or c.clear_words.new.words w d)) c.deref_mut.ensures.value
    (c.clear_words.ensures.each w d (omega (arith, used, c.words_for.ensures)))

filled : (c : goal.After-self-3-1) → AreFilled 0 c.clear_words.new.words
filled c =
    let a = c.self.inside in
    let g = c.self.invariant in
    cleared_filled a.frame.circuit.now a.frame.schedule a.frame.good a.count a.frame.pending c.clear.new.self
    a.words.items
    c.clear_words.new.words g.word_count (long c) g.filled g.words (rest c) g.frame.circuit g.frame.schedule
    g.frame.good (back c)

pub invariant_of-self : goal.invariant_of-self
invariant_of-self c =
    let a = c.self.inside in
    let g = c.self.invariant in
    let new = c.clear_words.new.words in
    still_group _ new (length a.frame.pending) g.frame.circuit g.frame.schedule g.frame.good
    (let size = long c in with_items_is a.words new (omega (arith, size)))
    (long c ∙ g.word_count)
    (cleared_words a.frame.circuit.now a.frame.schedule a.frame.good a.count a.frame.pending c.clear.new.self
    a.words.items new g.word_count
    (long c) g.filled g.words (rest c) g.frame.circuit g.frame.schedule g.frame.good (back c))
    (filled c) (omega arith) c.clear.ensures g.frame.marks g.room g.four_room

pub returns : goal.returns
returns c =
    let a = c.self.inside in
    let new = c.clear_words.new.words in
    let machines = ap (flat_map (machines_of a.frame.circuit.now))
    (let size = long c in with_items_is a.words new (omega (arith, size)))
    ∙ no_machines a.frame.circuit.now new (filled c) in
    (λ i. record (group_of a) { machines = machines i; settled = true })
    ∙ ap (λ (v : GroupView). record v { machines = []; settled = true }) c.self.view_is
