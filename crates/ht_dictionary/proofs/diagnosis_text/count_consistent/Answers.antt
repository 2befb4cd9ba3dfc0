use Rattle.ht_faults.proofs.OwnLaws.{own_below}
use Rattle.ht_dictionary.proofs.diagnosis_text.count_consistent.Goals as goal

pub get-requires : goal.get-requires
get-requires c =
    own_below c.args.classes.now _ c.loop-i.i-index _ c.representatives-i-items.ensures c.loop-i-test.true c.requires
