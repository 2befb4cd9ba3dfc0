use Rattle.ht_uninit.proofs.UninitTextLaws.{number_more}
use Rattle.ht_uninit.proofs.work.every_number.Goals as goal

pub loop-k-preserved : goal.loop-k-preserved
loop-k-preserved c = number_more _ _ _ c.loop-k.invariant c.in_ok-push.ensures.items
