use Rattle.std.proofs.Common.{◌∙◌}
use Rattle.ht_lanes.proofs.FourLaws.{not_rows}
use Rattle.ht_lanes.proofs.four.complement_four.Goals as goal

pub four_words-requires : goal.four_words-requires
four_words-requires c i below = (not_rows _ _ _ i below c.four_rows.ensures).0

pub returns : goal.returns
returns c i below = c.four_words.ensures.each i below ∙ (not_rows _ _ _ i below c.four_rows.ensures).1
