use Rattle.std.proofs.Common.{◌∙◌}
use Rattle.ht_tree.proofs.BeginLaws.{open_alone}
use Rattle.ht_window.proofs.TrialLaws.{status_here, choice_here, choice_fits_here}
use Rattle.ht_window.proofs.trial.TrialProblem.pick.Goals as goal

pub pick-requires : goal.pick-requires
pick-requires c =
    let s = c.args.self.now in
    open_alone _ (status_here s.window.window s.window.decisions s.seeks ∙ c.requires)

pub returns-clause-chosen : goal.returns-clause-chosen
returns-clause-chosen c =
    let s = c.args.self.now in
    c.pick.ensures.choice ∙ choice_here s.window.window s.window.decisions s.seeks

pub returns-clause-fits : goal.returns-clause-fits
returns-clause-fits c =
    let s = c.args.self.now in
    choice_fits_here s.window.window s.window.decisions s.seeks c.pick.result c.requires c.pick.ensures.legal
