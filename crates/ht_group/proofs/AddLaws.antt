-- A machine is added to the word that is next.
use Rattle.std.specs.Prelude.{set, flat_map, min}
use Rattle.std.proofs.Common.{◌≡◌, ◌≢◌, ◌<◌, ◌≤◌, ◌+◌, ◌-◌, ◌*◌, ◌/◌, ◌∙◌, ℕ, List, [], ◌∷◌, ◌++◌, Bool, true, false, length, get_or, drop, ap, sym, subst, refl, arith, inl, inr}
use Rattle.std.proofs.lemmas.Bool.{cases_eq}
use Rattle.std.proofs.lemmas.List.{length-append, length-set, get_or-set_same, get_or-set_other}
use Rattle.ht_net.specs.Circuit.Netlist.{Netlist}
use Rattle.ht_group.specs.GroupOf.{IsGroup}
use Rattle.ht_group.specs.GroupView.{FaultyMachine}
use Rattle.ht_group.specs.MachineWords.{AreFilled, HasOneMore, HasSame, IsWord, IsWordIn, machines_of}
use Rattle.ht_group.specs.SharedFrames.{IsMorePending}
use Rattle.ht_group.specs.declared.good_frame.GoodFrame.{GoodFrame}
use Rattle.ht_group.specs.declared.group.Group.TheInside.{Inside}
use Rattle.ht_group.specs.declared.machines.Machines.{Machines}
use Rattle.ht_group.specs.declared.shared_frame.SharedFrame.{SharedFrame}
use Rattle.ht_events.specs.declared.schedule.Schedule.{Schedule}
use Rattle.ht_group.proofs.BlockLaws.{more_at}
use Rattle.ht_group.proofs.ChangeLaws.{more_pending}
use Rattle.ht_group.proofs.GroupLaws.{filled_machines}
use Rattle.ht_group.proofs.ViewLaws.{machine_count}
use Rattle.ht_group.proofs.WordsLaws.{AreWords, is_group}

fault_count : (c : Netlist) (m : Machines) → length (machines_of c m) ≡ length m.lines.faults.items
fault_count c m = machine_count 0 m.lines.faults.items (drop c.inputs m.sources.words)

module _ (c : Netlist) (n : ℕ) (words : List Machines) (old new : Machines) (four : length words ≡ 4) (few : n < 256)
    (was : old ≡ get_or words (n / 64) old) where
  abbrev next : ℕ
  next = n / 64

  abbrev written : List Machines
  written = set words (n / 64) new

  -- with fewer than 256 machines the next of the four words is there
  pub next_inside : n / 64 < length words
  next_inside = omega (arith, few, four)

  is_new : (d : Machines) → get_or written next d ≡ new
  is_new d = get_or-set_same words next new d next_inside

  is_old : (v : ℕ) (d : Machines) → v ≢ next → get_or written v d ≡ get_or words v d
  is_old v d ne = get_or-set_other words next v new d ne

  -- after the next word is written and more nets are pending, each of the four is still a word of the group
  pub written_words : (s : Schedule) (frame : GoodFrame) (before pending : List Bool)
      → ((r : ℕ) → get_or before r false ≡ true → get_or pending r false ≡ true)
      → AreWords c s frame before words → IsWord c s frame pending new → AreWords c s frame pending written
  written_words s frame before pending more each word v d inside = elim (cases_eq v next) [
    | inl e ↦ subst (λ (m : Machines). IsWord c s frame pending m)
        (sym (ap (λ (i : ℕ). get_or written i d) e ∙ is_new d)) word
    | inr ne ↦ subst (λ (m : Machines). IsWord c s frame pending m) (sym (is_old v d ne))
        (more_pending c s frame before pending (get_or words v d) more (each v d inside))
  ]

  module _ (filled : AreFilled n words) where
    old_filled : length old.lines.faults.items ≡ min 64 (n - 64 * next)
    old_filled = ap (λ (m : Machines). length m.lines.faults.items) was ∙ filled next old next_inside

    -- there is room in it
    pub next_room : length old.lines.faults.items < 64
    next_room = let f = old_filled in omega (arith, f)

    -- the words are filled with m machines, where this one is and the others need no more
    filled_with : (m : ℕ) → length new.lines.faults.items ≡ min 64 (m - 64 * next)
        → ((v : ℕ) → v ≢ next → min 64 (n - 64 * v) ≡ min 64 (m - 64 * v)) → AreFilled m written
    filled_with m here others v d inside = elim (cases_eq v next) [
      | inl e ↦
          ap (λ (x : Machines). length x.lines.faults.items) (ap (λ (i : ℕ). get_or written i d) e ∙ is_new d)
          ∙ (here ∙ ap (λ (i : ℕ). min 64 (m - 64 * i)) (sym e))
      | inr ne ↦
          let size = length-set words next new in
          ap (λ (x : Machines). length x.lines.faults.items) (is_old v d ne)
          ∙ (filled v d (omega (arith, inside, size)) ∙ others v ne)
    ]

    -- the machines of the word, and its faults
    new_count : (k : ℕ) → length (machines_of c new) ≡ length (machines_of c old) + k
        → length new.lines.faults.items ≡ min 64 (n - 64 * next) + k
    new_count k more =
        let f = old_filled in
        let p = fault_count c new in
        let q = fault_count c old in
        omega (arith, f, more, p, q)

    -- The word has one machine more.
    module _ (one : FaultyMachine) (more : HasOneMore c old one new) where
      -- after the next word got a machine more, the words are filled with one more
      pub added_filled : AreFilled (n + 1) written
      added_filled =
          let count = new_count 1
          (ap (λ (l : List FaultyMachine). length l) more ∙ length-append (machines_of c old) (one ∷ [])) in
          filled_with (n + 1) (omega (arith, count)) (λ v ne. omega (arith, ne))

      -- after the next word got a machine more, all machines are those before and then that one
      pub added_machines : flat_map (machines_of c) written ≡ flat_map (machines_of c) words ++ one ∷ []
      added_machines = more_at (machines_of c) words n next new one old (omega arith) (omega arith) next_inside
          (filled_machines c n words filled)
          (more ∙ ap (λ (m : Machines). machines_of c m ++ one ∷ []) was)

    -- or the same machines
    module _ (same : HasSame c old new) where
      -- after the next word was written with the same machines, the words are filled as before
      pub same_filled : AreFilled n written
      same_filled =
          let size = ap (λ (l : List FaultyMachine). length l) same in
          let count = new_count 0 (omega (arith, size)) in
          filled_with n (omega (arith, count)) (λ v ne. refl)

-- A group is one still where the next of its words was written.
pub written_group : (a : Inside) → IsGroup a → a.count < 256 → (old new : Machines)
    → old ≡ get_or a.words.items (a.count / 64) old → (b : Inside)
    → record a { frame = b.frame; words = b.words; count = b.count; settled = b.settled } ≡ b
    → b.words.items ≡ set a.words.items (a.count / 64) new → IsMorePending a.frame b.frame → IsWordIn b.frame new
    → AreFilled b.count (set a.words.items (a.count / 64) new) → b.count ≤ 256
    → (b.settled ≡ true → (r : ℕ) → get_or b.frame.pending r false ≡ false) → IsGroup b
written_group a g few old new was b same items more word filled most settled =
    let again = sym more.same in
    subst IsGroup
    ((λ i. record a { frame = again i; words = b.words; count = b.count; settled = b.settled }) ∙ same)
    (is_group (record a {
      frame = record a.frame { pending = b.frame.pending };
      words = b.words;
      count = b.count;
      settled = b.settled;
    }) (set a.words.items (a.count / 64) new) g.frame.circuit g.frame.schedule g.frame.good items
    (length-set a.words.items (a.count / 64) new ∙ g.word_count)
    (written_words a.frame.circuit.now a.count a.words.items old new g.word_count few was a.frame.schedule a.frame.good
    a.frame.pending b.frame.pending more.more g.words
    (subst (λ (f : SharedFrame). IsWordIn f new) more.same word))
    filled most more.marks g.room g.four_room settled)
