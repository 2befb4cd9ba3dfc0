use Rattle.ht_proofs.proofs.UndetectedLaws.{numbers_more}
use Rattle.ht_compact.proofs.runners.all_numbers.Goals as goal

pub loop-k-preserved : goal.loop-k-preserved
loop-k-preserved c =
    numbers_more c.loop-k.numbers.items _ c.loop-k.k c.loop-k.invariant c.in_ok-push.ensures.items
