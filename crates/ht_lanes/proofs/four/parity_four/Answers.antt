use Rattle.std.proofs.Common.{◌∙◌}
use Rattle.ht_lanes.proofs.FourLaws.{xor_rows}
use Rattle.ht_lanes.proofs.four.parity_four.Goals as goal

pub four_words-requires : goal.four_words-requires
four_words-requires c i below = (xor_rows _ _ _ _ _ _ i below c.four_rows.ensures c.four_rows-2.ensures).0

pub returns : goal.returns
returns c i below = c.four_words.ensures.each i below
    ∙ (xor_rows _ _ _ _ _ _ i below c.four_rows.ensures c.four_rows-2.ensures).1
