use Rattle.std.proofs.Common.{◌∙◌, ◌/◌, ◌%◌, ℕ, List, Bool, false, get_or, ap, sym, arith}
use Rattle.std.proofs.lemmas.List.{get_or_read}
use Rattle.ht_items.specs.Bits.{is_set}
use Rattle.ht_items.proofs.BitLaws.{bit_of, mark_at}
use Rattle.ht_items.proofs.bit_set.BitSet.contains.Goals as goal

pub index-requires : goal.index-requires
index-requires c =
    let at = bit_of c.self.inside c.self.invariant c.args.self.now c.self.view_is c.args.i c.requires in
    let inside = at.inside in omega (arith, inside)

pub returns : goal.returns
returns c =
    let a = c.self.inside in
    let at = bit_of a c.self.invariant c.args.self.now c.self.view_is c.args.i c.requires in
    c.has_bit.ensures
    ∙ (ap (λ (n : ℕ). is_set n (c.args.i % 64))
    (get_or_read a.words.items (c.args.i / 64) c.index.result.now at.inside c.index.ensures 0)
    ∙ (sym (mark_at a.bound a.words.items c.self.invariant.past c.args.i)
    ∙ ap (λ (l : List Bool). get_or l c.args.i false) c.self.view_is))
