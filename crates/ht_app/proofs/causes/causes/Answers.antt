use Rattle.std.proofs.Common.{refl}
use Rattle.ht_app.proofs.causes.causes.Goals as goal
use Rattle.ht_words.specs.Jobs.{asked_by}
use Rattle.ht_words.specs.declared.job.Job.TheVariants as job_of

pub returns : goal.returns
returns g c = c.finish.ensures (asked_by
    (job_of.Causes c.args.netlist.now c.args.tests.now c.args.out.now c.args.start.now))
    (g.D.Desk.view c.args.desk.now) refl refl (c.explain-made.ensures c.args.out.now)
