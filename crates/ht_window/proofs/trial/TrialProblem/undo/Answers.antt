use Rattle.ht_window.proofs.AloneLaws.{alone_back, alone_few}
use Rattle.ht_window.proofs.trial.TrialProblem.undo.Goals as goal

pub undo_to-requires : goal.undo_to-requires
undo_to-requires c = alone_few c.args.self.now.window.decisions c.args.point c.requires

pub returns-clause-route : goal.returns-clause-route
returns-clause-route c = alone_back c.args.self.now.window c.undo_to.new.self c.args.point c.requires c.undo_to.ensures
