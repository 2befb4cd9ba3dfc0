use Rattle.std.proofs.Common.{◌∙◌}
use Rattle.ht_sync.specs.SyncWindows.{sync_choice, sync_status}
use Rattle.ht_sync.proofs.TrialLaws.{status_here}
use Rattle.ht_sync.proofs.trial.SyncTrialProblem.status.Goals as goal

pub returns : goal.returns
returns c =
    let s = c.args.self.now.window in
    c.see.ensures ∙ status_here s.window (sync_status s.window) (sync_choice s.window) s.decisions
