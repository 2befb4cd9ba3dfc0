-- What each call leaves of a group's words.
use Rattle.std.specs.Prelude.{flat_map, min}
use Rattle.std.proofs.Common.{◌≡◌, ◌<◌, ◌≤◌, ◌-◌, ◌*◌, ◌∙◌, ℕ, List, [], Bool, true, false, length, get_or, drop, replicate, ap, sym, subst, arith, inl, inr}
use Rattle.std.proofs.lemmas.Bool.{cases_lt}
use Rattle.std.proofs.lemmas.List.{nil_from_length, get_or-replicate, get_or_past, length-replicate}
use Rattle.ht_net.specs.declared.fault.Fault.{Fault}
use Rattle.ht_net.specs.Circuit.Netlist.{Netlist, net_count, IsCircuit}
use Rattle.ht_group.specs.GoodFrames.{IsGoodFrame}
use Rattle.ht_group.specs.GroupOf.{IsGroup}
use Rattle.ht_group.specs.GroupView.{words_for}
use Rattle.ht_group.specs.MachineWords.{AreFilled, AreMachinesKept, AreRunning, IsBare, IsRestored, IsWord, machines_from, machines_of}
use Rattle.ht_events.specs.Schedules.{IsSchedule}
use Rattle.ht_group.specs.declared.good_frame.GoodFrame.{GoodFrame}
use Rattle.ht_group.specs.declared.group.Group.TheInside.{Inside}
use Rattle.ht_group.specs.declared.machines.Machines.{Machines}
use Rattle.ht_group.specs.declared.shared_frame.SharedFrame.{SharedFrame}
use Rattle.ht_events.specs.declared.schedule.Schedule.{Schedule}
use Rattle.ht_group.specs.declared.stuck_lines.StuckLines.{StuckLines}
use Rattle.ht_group.proofs.BlockLaws.{none_left, same_all}
use Rattle.ht_group.proofs.ChangeLaws.{bare_word, ran_word, restored_word, still_word}
use Rattle.ht_group.proofs.GroupLaws.{filled_machines}

-- no number is marked in a set of none
pub none_marked : (n r : ℕ) → get_or (replicate n false) r false ≡ false
none_marked n r = elim (cases_lt r n) [
  | inl inside ↦ get_or-replicate n r false false inside
  | inr past ↦ get_or_past (replicate n false) r false (let e = length-replicate n false in omega (arith, past, e))
]

-- each of four words is one of a group's
abbrev pub AreWords : Netlist → Schedule → GoodFrame → List Bool → List Machines → Type 0
AreWords c s frame pending words = (w : ℕ) (d : Machines) → w < 4 → IsWord c s frame pending (get_or words w d)

-- a group, by what its words are
pub is_group : (b : Inside) (words : List Machines) → IsCircuit b.frame.circuit.now
    → IsSchedule b.frame.circuit.now b.frame.schedule
    → IsGoodFrame b.frame.circuit.now b.frame.good → b.words.items ≡ words → length words ≡ 4
    → AreWords b.frame.circuit.now b.frame.schedule b.frame.good b.frame.pending words → AreFilled b.count words
    → b.count ≤ 256
    → length b.frame.pending ≡ net_count b.frame.circuit.now → length b.pins.items ≡ 256 → length b.fours.items ≡ 256
    → (b.settled ≡ true → (r : ℕ) → get_or b.frame.pending r false ≡ false) → IsGroup b
is_group b words circuit schedule frame is four each filled few marks room four_room settled = record {
  frame = record { circuit = circuit; schedule = schedule; good = frame; marks = marks };
  word_count = ap (λ (l : List Machines). length l) is ∙ four;
  words = subst (λ (l : List Machines). AreWords b.frame.circuit.now b.frame.schedule b.frame.good b.frame.pending l)
      (sym is) each;
  filled = subst (λ (l : List Machines). AreFilled b.count l) (sym is) filled;
  few = few;
  room = room;
  four_room = four_room;
  settled = settled;
}

-- and by a frame that is the same
pub in_frame : (b : Inside) (frame : SharedFrame) → b.frame ≡ frame → IsGroup (record b { frame = frame }) → IsGroup b
in_frame b frame same group = subst (λ (f : SharedFrame). IsGroup (record b { frame = f })) (sym same) group

-- where no net is pending
pub still_group : (b : Inside) (words : List Machines) (n : ℕ) → IsCircuit b.frame.circuit.now
    → IsSchedule b.frame.circuit.now b.frame.schedule → IsGoodFrame b.frame.circuit.now b.frame.good
    → b.words.items ≡ words
    → length words ≡ 4 → AreWords b.frame.circuit.now b.frame.schedule b.frame.good b.frame.pending words
    → AreFilled b.count words
    → b.count ≤ 256 → b.frame.pending ≡ replicate n false → n ≡ net_count b.frame.circuit.now
    → length b.pins.items ≡ 256
    → length b.fours.items ≡ 256 → IsGroup b
still_group b words n circuit schedule frame is four each filled few none marks room four_room =
    is_group b words circuit schedule frame is four each filled few
    (ap (λ (l : List Bool). length l) none ∙ (length-replicate n false ∙ marks)) room four_room
    (λ settled r. ap (λ (l : List Bool). get_or l r false) none ∙ none_marked n r)

-- a word past those that have machines, and one of them
unused : (n w : ℕ) (m : Machines) → words_for n ≤ w → length m.lines.faults.items ≡ min 64 (n - 64 * w)
    → m.lines.faults.items ≡ []
unused n w m past filled = nil_from_length m.lines.faults.items (omega (arith, past, filled))

used_some : (n w : ℕ) (m : Machines) → w < words_for n → length m.lines.faults.items ≡ min 64 (n - 64 * w)
    → 0 < length m.lines.faults.items
used_some n w m used filled = omega (arith, used, filled)

-- words without machines
pub bare_filled : (c : Netlist) (words : List Machines) → length words ≡ 4
    → ((w : ℕ) (d : Machines) → w < 4 → IsBare c (get_or words w d)) → AreFilled 0 words
bare_filled c words four bare w d inside =
    let none = ap (λ (l : List Fault). length l) (bare w d (omega (arith, inside, four))).none in omega (arith, none)

-- words that are filled with no machines have none in all
pub no_machines : (c : Netlist) (words : List Machines) → AreFilled 0 words → flat_map (machines_of c) words ≡ []
no_machines c words filled =
    let zero : 0 ≡ 0 = omega arith in none_left (machines_of c) words 0 zero (filled_machines c 0 words filled)

module _ (c : Netlist) (s : Schedule) (frame : GoodFrame) where
  -- words that have no machines and lie over no frame are words of a group
  pub bare_words : (pending : List Bool) (words : List Machines)
      → ((w : ℕ) (d : Machines) → w < 4 → IsBare c (get_or words w d)) → AreWords c s frame pending words
  bare_words pending words bare w d inside = bare_word c s frame pending (get_or words w d) (bare w d inside)

  module _ (n : ℕ) (before pending : List Bool) (old new : List Machines) (four : length old ≡ 4)
      (same : length new ≡ length old) (filled : AreFilled n old) (words : AreWords c s frame before old)
      (rest : (w : ℕ) (d : Machines) → words_for n ≤ w → get_or new w d ≡ get_or old w d) where
    filled_at : (w : ℕ) (d : Machines) → w < 4
        → length (get_or old w d).lines.faults.items ≡ min 64 (n - 64 * w)
    filled_at w d inside = filled w d (omega (arith, inside, four))

    unused_word : (w : ℕ) (d : Machines) → w < 4 → words_for n ≤ w → IsWord c s frame pending (get_or new w d)
    unused_word w d inside past =
        subst (λ (m : Machines). IsWord c s frame pending m) (sym (rest w d past))
        (still_word c s frame before pending (get_or old w d)
        (unused n w (get_or old w d) past (filled_at w d inside)) (words w d inside))

    -- The machines have run.
    pub settled_words : ((w : ℕ) (d : Machines) → w < words_for n → AreRunning c s pending (get_or new w d))
        → ((w : ℕ) (d : Machines) → AreMachinesKept (get_or old w d) (get_or new w d)) → AreWords c s frame pending new
    settled_words runs kept w d inside = elim (cases_lt w (words_for n)) [
      | inl used ↦ ran_word c s frame before pending (get_or old w d) (get_or new w d)
          (used_some n w (get_or old w d) used (filled_at w d inside)) (words w d inside) (kept w d) (runs w d used)
      | inr past ↦ unused_word w d inside past
    ]

    -- They are taken away.
    module _ (circuit : IsCircuit c) (schedule : IsSchedule c s) (good : IsGoodFrame c frame)
        (back : (w : ℕ) (d : Machines) → w < words_for n → IsRestored c (get_or old w d) (get_or new w d)) where
      -- after the machines are taken away, each word is still a word of the group
      pub cleared_words : AreWords c s frame pending new
      cleared_words w d inside = elim (cases_lt w (words_for n)) [
        | inl used ↦ restored_word c s frame circuit schedule good before pending (get_or old w d) (get_or new w d)
            (words w d inside) (back w d used)
        | inr past ↦ unused_word w d inside past
      ]

      -- after the machines are taken away, the words are filled with none
      pub cleared_filled : AreFilled 0 new
      cleared_filled w d inside = elim (cases_lt w (words_for n)) [
        | inl used ↦
            let none = ap (λ (l : List Fault). length l) (back w d used).none in omega (arith, none)
        | inr past ↦
            let none = ap (λ (m : Machines). length m.lines.faults.items) (rest w d past) in
            let free = ap (λ (l : List Fault). length l)
            (unused n w (get_or old w d) past (filled w d (omega (arith, inside, same)))) in
            omega (arith, none, free)
      ]

-- words whose machines are kept are filled as before
pub kept_filled : (n : ℕ) (old new : List Machines) → length new ≡ length old → AreFilled n old
    → ((w : ℕ) (d : Machines) → AreMachinesKept (get_or old w d) (get_or new w d)) → AreFilled n new
kept_filled n old new same filled kept w d inside =
    ap (λ (l : StuckLines). length l.faults.items) (kept w d).lines ∙ filled w d (omega (arith, inside, same))

-- words whose machines are kept have the same machines in all
pub kept_machines : (c : Netlist) (old new : List Machines) → length new ≡ length old
    → ((w : ℕ) (d : Machines) → AreMachinesKept (get_or old w d) (get_or new w d))
    → flat_map (machines_of c) new ≡ flat_map (machines_of c) old
kept_machines c old new same kept =
    same_all (machines_of c) old new same
    (λ w d inside i. machines_from 0 ((kept w d).lines i).faults.items (drop c.inputs ((kept w d).sources i).words))
