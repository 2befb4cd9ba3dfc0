use Rattle.std.proofs.Common.{[], refl}
use Rattle.ht_search.proofs.WindowStepLaws.{window_point}
use Rattle.ht_window.proofs.trial.TrialProblem.mark.Goals as goal

pub returns : goal.returns
returns c =
    window_point [] c.args.self.now.window.decisions 0 c.decision_count.result refl c.decision_count.ensures
