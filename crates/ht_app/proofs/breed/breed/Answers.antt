use Rattle.std.proofs.Common.{refl}
use Rattle.ht_app.proofs.Common.{asked_by}
use Rattle.ht_words.specs.declared.job.Job.TheVariants as job_of
use Rattle.ht_app.proofs.breed.breed.Goals as goal

pub returns : goal.returns
returns g c = c.finish.ensures (asked_by (job_of.Breed c.args.files.now c.args.options.now))
    (g.D.Desk.view c.args.desk.now) refl refl c.make_texts-made.ensures
