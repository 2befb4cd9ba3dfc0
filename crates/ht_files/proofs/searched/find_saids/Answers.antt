use Rattle.ht_files.specs.Saids.{IsSaidIn}
use Rattle.ht_files.proofs.SaidSoFarLaws.{said_more}
use Rattle.ht_files.proofs.searched.find_saids.Goals as goal

pub loop-i-preserved : goal.loop-i-preserved
loop-i-preserved c = rw c.in_ok-push.ensures.items (said_more (IsSaidIn c.args.verdicts.now)
    c.args.verdicts.now.circuit c.args.verdicts.now.representatives c.loop-i.i c.loop-i.saids.items
    c.find_said-said.result c.loop-i.invariant c.find_said-said.ensures)
