use Rattle.ht_compact.proofs.LogLaws.{none_joined}
use Rattle.ht_compact.proofs.run.join_each.Goals as goal

pub loop-j-init : goal.loop-j-init
loop-j-init c = none_joined c.args.histories.now c.args.t c.args.grades.now c.args.runners.now
