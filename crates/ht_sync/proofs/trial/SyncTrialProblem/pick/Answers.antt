use Rattle.std.proofs.Common.{◌∙◌}
use Rattle.ht_sync.specs.SyncWindows.{sync_choice, sync_status}
use Rattle.ht_sync.proofs.TrialLaws.{status_here, choice_here, choice_fits_here}
use Rattle.ht_sync.proofs.trial.SyncTrialProblem.pick.Goals as goal

pub choose-requires : goal.choose-requires
choose-requires c =
    let s = c.args.self.now.window in
    status_here s.window (sync_status s.window) (sync_choice s.window) s.decisions ∙ c.requires

pub returns-clause-chosen : goal.returns-clause-chosen
returns-clause-chosen c =
    let s = c.args.self.now.window in
    c.choose.ensures.choice ∙ choice_here s.window (sync_status s.window) (sync_choice s.window) s.decisions

pub returns-clause-fits : goal.returns-clause-fits
returns-clause-fits c =
    let s = c.args.self.now.window in
    choice_fits_here s.window (sync_status s.window) (sync_choice s.window) s.decisions c.choose.result c.requires
    c.choose.ensures.legal
