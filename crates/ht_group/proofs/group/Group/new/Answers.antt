use Rattle.std.proofs.Common.{arith}
use Rattle.ht_group.proofs.WordsLaws.{is_group, bare_words, bare_filled, no_machines}
use Rattle.ht_group.proofs.group.Group.new.Goals as goal

pub invariant_of-result : goal.invariant_of-result
invariant_of-result c =
    let frame = c.in_ok-frame.frame in
    let is = c.in_ok-frame.ensures in
    let n = frame.circuit.now in
    let words = c.in_ok-words.words.items in
    let w = c.in_ok-words.ensures in
    is_group _ words is.frame.circuit is.frame.schedule is.frame.good (λ i. words) w.count
    (bare_words n frame.schedule frame.good frame.pending words w.each) (bare_filled n words w.count w.each)
    (omega arith) is.frame.marks (omega (arith, c.in_ok-pins.ensures.len)) (omega (arith, c.in_ok-fours.ensures.len))
    (λ settled. is.none)

pub returns-clause-circuit : goal.returns-clause-circuit
returns-clause-circuit c = c.in_ok-frame.ensures.circuit

pub returns-clause-none : goal.returns-clause-none
returns-clause-none c =
    no_machines c.in_ok-frame.frame.circuit.now c.in_ok-words.words.items
    (bare_filled c.in_ok-frame.frame.circuit.now c.in_ok-words.words.items c.in_ok-words.ensures.count
    c.in_ok-words.ensures.each)
