use Rattle.ht_cubes.proofs.PieceLaws.{choices_on}
use Rattle.ht_cubes.proofs.parity.choices.Goals as goal

pub loop-n-preserved : goal.loop-n-preserved
loop-n-preserved c = choices_on c.loop-n._n c.loop-n.rows c.new-more.result c.push_after.new.more c.push_after-in-loop-n.new.more
    c.loop-n.invariant c.new-more.ensures c.in_ok-push_after.ensures c.in_ok-push_after-2.ensures
