use Rattle.ht_faults.proofs.OwnLaws.{own_below}
use Rattle.ht_causes.proofs.causes_text.count_row.Goals as goal

pub row_at-requires : goal.row_at-requires
row_at-requires c =
    own_below c.args.classes.now _ c.loop-i.i-index _ c.representatives-i-items.ensures c.loop-i-test.true c.requires
