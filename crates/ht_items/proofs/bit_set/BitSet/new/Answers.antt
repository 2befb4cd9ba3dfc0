use Rattle.std.proofs.Common.{◌∙◌, ap}
use Rattle.ht_items.specs.BitSets.{marks_of}
use Rattle.ht_items.proofs.BitLaws.{no_marks}
use Rattle.ht_items.proofs.bit_set.BitSet.new.Goals as goal

pub returns : goal.returns
returns c = ap (marks_of c.args.bound) (c.in_ok-vec.ensures.items_if_clones_equal (λ y is. is))
    ∙ no_marks c.args.bound _
