use Rattle.std.proofs.Common.{◌≡◌, ◌<◌, ℕ, List, length, map, arith}
use Rattle.std.proofs.lemmas.List.{length-map}
use Rattle.ht_lanes.specs.Lanes.{Lanes, word_at}
use Rattle.ht_breed.proofs.SensitizedLaws.{earlier_starts, earlier_steps, word_of_pin}
use Rattle.ht_breed.proofs.pins.trace_after_earlier.Goals as goal

pub loop-i-init : goal.loop-i-init
loop-i-init c =
    earlier_starts c.args.kind (map (λ net. word_at c.args.words.now net) c.args.nets.now) c.args.output c.args.pins.now

pub loop-i-preserved : goal.loop-i-preserved
loop-i-preserved c =
    let words : List Lanes = map (λ net. word_at c.args.words.now net) c.args.nets.now in
    let count : length words ≡ length c.args.nets.now =
    length-map c.args.nets.now (λ (net : ℕ). word_at c.args.words.now net) in
    let inside : c.loop-i.i < length words = omega (arith, count, c.loop-i-test.true) in
    let room : c.loop-i.i < length c.loop-i.pins =
    omega (arith, c.requires, c.loop-i-test.true, c.loop-i.auto.pins) in
    earlier_steps c.args.kind words c.args.output c.loop-i.pins c.loop-i.lanes c.side_lanes-lanes.result c.loop-i.i
    c.within.result c.word_at.result inside room c.within.ensures
    (word_of_pin c.args.words.now c.args.nets.now c.loop-i.i c.word_at.result _ c.loop-i-test.true c.word_at.ensures)
    c.side_lanes-lanes.ensures c.loop-i.invariant

pub returns : goal.returns
returns c i inside =
    let count : length (map (λ net. word_at c.args.words.now net) c.args.nets.now) ≡ length c.args.nets.now =
    length-map c.args.nets.now (λ (net : ℕ). word_at c.args.words.now net) in
    c.loop-i.invariant.each i (omega (arith, inside, count, c.loop-i-test.false, c.loop-i.auto.i-end))
