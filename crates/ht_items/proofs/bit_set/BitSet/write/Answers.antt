use Rattle.std.proofs.Common.{◌∙◌, ◌/◌, ℕ, List, Bool, set, ap, arith}
use Rattle.std.proofs.lemmas.List.{length-set}
use Rattle.ht_items.specs.BitSets.{is_marked, marks_of}
use Rattle.ht_items.proofs.BitLaws.{bit_of, word_written, mark_written, mark_there}
use Rattle.ht_items.proofs.bit_set.BitSet.write.Goals as goal

pub index-requires : goal.index-requires
index-requires c =
    let at = bit_of c.self.inside c.self.invariant c.args.self.now c.self.view_is c.args.i c.requires in
    let inside = at.inside in omega (arith, inside)

pub index_mut-requires : goal.index_mut-requires
index_mut-requires c =
    let at = bit_of c.self.inside c.self.invariant c.args.self.now c.self.view_is c.args.i c.requires in
    let inside = at.inside in omega (arith, inside)

pub invariant_of-self : goal.invariant_of-self
invariant_of-self c =
    let words = c.self.inside.words.items in
    let at = bit_of c.self.inside c.self.invariant c.args.self.now c.self.view_is c.args.i c.requires in
    let same = length-set words (c.args.i / 64) c.with_bit.result in
    record {
      room = omega (arith, same, c.self.invariant.room);
      few = omega (arith, same, c.self.invariant.few);
      past = λ j from.
          let new = word_written words c.args.i c.index.result.now c.with_bit.result c.args.mark at.inside
          c.index.ensures c.with_bit.ensures in
          ap (λ (l : List ℕ). is_marked l j) new
          ∙ (mark_there words c.args.i j c.args.mark at.inside (let below = at.below in omega (arith, from, below))
          ∙ c.self.invariant.past j from);
    }

pub returns : goal.returns
returns c =
    let a = c.self.inside in
    let at = bit_of a c.self.invariant c.args.self.now c.self.view_is c.args.i c.requires in
    ap (marks_of a.bound) (word_written a.words.items c.args.i c.index.result.now c.with_bit.result c.args.mark
    at.inside c.index.ensures c.with_bit.ensures)
    ∙ (mark_written a.bound a.words.items c.args.i c.args.mark at.below at.inside
    ∙ ap (λ (l : List Bool). set l c.args.i c.args.mark) c.self.view_is)
