use Rattle.std.proofs.lemmas.Grind.{common_steps}
use Rattle.std.proofs.Common.{arith}
use Rattle.ht_faults.proofs.OwnLaws.{own_below}
use Rattle.ht_uninit.proofs.uninit_text.count_hidden.Goals as goal

pub hidden-requires : goal.hidden-requires
hidden-requires c =
    own_below c.args.classes.now _ c.loop-i.i-index _ c.representatives-i-items.ensures c.loop-i-test.true c.requires

pub overflow_add-count : goal.overflow_add-count
overflow_add-count c = grind (arith, common_steps)
