use Rattle.std.proofs.Common.{◌≡◌, ◌∙◌, ℕ, List, length, map, arith}
use Rattle.std.proofs.lemmas.List.{length-map}
use Rattle.ht_lanes.specs.Lanes.{Lanes, word_at}
use Rattle.ht_breed.proofs.SensitizedLaws.{two_traced, word_of_pin}
use Rattle.ht_breed.proofs.pins.trace_two.Goals as goal

pub returns : goal.returns
returns c =
    let words : List Lanes = map (λ net. word_at c.args.words.now net) c.args.nets.now in
    let count : length words ≡ length c.args.nets.now =
    length-map c.args.nets.now (λ (net : ℕ). word_at c.args.words.now net) in
    two_traced c.args.kind words c.args.output c.within.result c.within-2.result c.args.pins.now
    c.side_lanes-beside_first.result c.side_lanes-beside_second.result c.word_at-2.result c.word_at.result
    (count ∙ c.requires.two) (c.requires.each ∙ c.requires.two)
    (word_of_pin c.args.words.now c.args.nets.now 0 c.word_at-2.result _ (omega (arith, c.requires.two))
    c.word_at-2.ensures)
    (word_of_pin c.args.words.now c.args.nets.now 1 c.word_at.result _ (omega (arith, c.requires.two))
    c.word_at.ensures)
    c.side_lanes-beside_first.ensures c.side_lanes-beside_second.ensures c.within.ensures c.within-2.ensures
