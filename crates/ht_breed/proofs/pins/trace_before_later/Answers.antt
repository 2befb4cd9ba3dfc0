use Rattle.std.proofs.Common.{◌≡◌, ◌<◌, ◌+◌, ◌-◌, ℕ, List, length, map, arith, sym}
use Rattle.std.proofs.lemmas.List.{length-map}
use Rattle.ht_lanes.specs.Lanes.{Lanes, word_at}
use Rattle.ht_breed.proofs.SensitizedLaws.{later_starts, later_steps, word_of_pin}
use Rattle.ht_breed.proofs.pins.trace_before_later.Goals as goal

pub loop-i-init : goal.loop-i-init
loop-i-init c =
    later_starts c.args.kind (map (λ net. word_at c.args.words.now net) c.args.nets.now) c.args.pins.now
    (length c.args.nets.now) (sym (length-map c.args.nets.now (λ (net : ℕ). word_at c.args.words.now net)))

pub loop-i-preserved : goal.loop-i-preserved
loop-i-preserved c =
    let words : List Lanes = map (λ net. word_at c.args.words.now net) c.args.nets.now in
    let count : length words ≡ length c.args.nets.now =
    length-map c.args.nets.now (λ (net : ℕ). word_at c.args.words.now net) in
    let n : ℕ = c.loop-i.i - 1 in
    let next : c.loop-i.i ≡ n + 1 = omega (arith, c.loop-i-test.true) in
    let low : n < length c.args.nets.now = omega (arith, c.loop-i-test.true, c.loop-i.auto.i) in
    let inside : n < length words = omega (arith, count, low) in
    let room : n < length c.loop-i.pins = omega (arith, c.requires, low, c.loop-i.auto.pins) in
    later_steps c.args.kind words c.args.pins.now c.loop-i.pins c.loop-i.lanes c.side_lanes-lanes.result c.loop-i.i n
    c.within.result _ c.word_at.result next inside room c.within.ensures
    (word_of_pin c.args.words.now c.args.nets.now n c.word_at.result _ low c.word_at.ensures)
    c.side_lanes-lanes.ensures c.loop-i.invariant

pub returns : goal.returns
returns c i inside = c.loop-i.invariant.each i (omega (arith, c.loop-i-test.false)) inside
