use Rattle.std.proofs.Common.{◌∙◌, ℕ, List, Bool, false, length, replicate, ap, sym}
use Rattle.ht_items.specs.BitSets.{marks_of}
use Rattle.ht_items.proofs.BitLaws.{no_marks, marks_length}
use Rattle.ht_items.proofs.bit_set.BitSet.clear.Goals as goal

pub returns : goal.returns
returns c =
    let a = c.self.inside in
    ap (marks_of a.bound) (c.fill.ensures.items (λ y is. is))
    ∙ (no_marks a.bound _
    ∙ ap (λ (n : ℕ). replicate n false)
    (sym (marks_length a.bound a.words.items) ∙ ap (λ (l : List Bool). length l) c.self.view_is))
