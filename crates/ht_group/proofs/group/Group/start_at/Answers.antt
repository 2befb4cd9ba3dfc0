use Rattle.std.specs.Prelude.{flat_map}
use Rattle.std.proofs.Common.{◌≡◌, ◌<◌, ◌∙◌, List, ℕ, true, length, get_or, take, drop, ap, arith}
use Rattle.std.proofs.lemmas.List.{with_items_is, length-map}
use Rattle.std.proofs.Math.Seq.{take-append_seam, drop-append_seam}
use Rattle.ht_tern.specs.Gate.{tern_of}
use Rattle.ht_net.specs.Detect.Detection.{terns_of}
use Rattle.ht_group.specs.MachineWords.{IsBare, machines_of}
use Rattle.ht_group.specs.GroupView.{GroupView}
use Rattle.ht_group.specs.declared.machines.Machines.{Machines}
use Rattle.ht_group.proofs.WordsLaws.{still_group, bare_words, bare_filled, no_machines}
use Rattle.ht_group.proofs.group.Group.start_at.Goals as goal

long : (c : goal.After-self-3-1) → length c.begin_words.new.words ≡ length c.self.inside.words.items
long c = c.begin_words.ensures.count ∙ ap (λ (l : List Machines). length l) c.deref_mut.ensures.value

bare : (c : goal.After-self-3-1) (w : ℕ) (d : Machines) → w < 4
    → IsBare c.self.inside.frame.circuit.now (get_or c.begin_words.new.words w d)
bare c w d inside =
    let four = ap (λ (l : List Machines). length l) c.deref_mut.ensures.value in
    c.begin_words.ensures.each w d (omega (arith, inside, four, c.self.invariant.word_count))

pub invariant_of-self : goal.invariant_of-self
invariant_of-self c =
    let a = c.self.inside in
    let g = c.self.invariant in
    let new = c.begin_words.new.words in
    let size = long c in
    still_group _ new (length a.frame.pending) g.frame.circuit g.frame.schedule c.start_at.ensures.frame
    (with_items_is a.words new (omega (arith, size)))
    (long c ∙ g.word_count) (bare_words a.frame.circuit.now a.frame.schedule c.start_at.new.self c.clear.new.self new
    (bare c))
    (bare_filled a.frame.circuit.now new (long c ∙ g.word_count) (bare c)) (omega arith) c.clear.ensures g.frame.marks
    g.room
    g.four_room

pub returns : goal.returns
returns c =
    let a = c.self.inside in
    let new = c.begin_words.new.words in
    let size = long c in
    let circuit = ap (λ (v : GroupView). v.circuit) c.self.view_is in
    let inputs = ap (λ (v : GroupView). v.circuit.inputs) c.self.view_is in
    let bits = c.args.vector.now in
    let count = length-map bits tern_of in
    let wide : a.frame.circuit.now.inputs ≡ length (terns_of bits) = omega (arith, inputs, count, c.requires.width) in
    let sources = c.start_at.ensures.sources in
    let vector = (λ i. take (wide i) (sources i)) ∙ take-append_seam (terns_of bits) c.args.latches.now in
    let latches = (λ i. drop (wide i) (sources i)) ∙ drop-append_seam (terns_of bits) c.args.latches.now in
    let machines = ap (flat_map (machines_of a.frame.circuit.now)) (with_items_is a.words new (omega (arith, size)))
    ∙ no_machines a.frame.circuit.now new (bare_filled a.frame.circuit.now new (long c ∙ c.self.invariant.word_count)
    (bare c)) in
    λ i. record {
      circuit = circuit i;
      vector = vector i;
      latches = latches i;
      machines = machines i;
      settled = true;
    }
