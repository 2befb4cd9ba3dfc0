use Rattle.std.proofs.Common.{◌∙◌, ap}
use Rattle.ht_tree.specs.Window.WindowStatus.{without_place}
use Rattle.ht_window.proofs.TrialLaws.{status_here}
use Rattle.ht_window.proofs.trial.TrialProblem.status.Goals as goal

pub returns : goal.returns
returns c =
    let s = c.args.self.now in
    c.without_place.ensures
    ∙ (ap without_place c.status.ensures ∙ status_here s.window.window s.window.decisions s.seeks)
