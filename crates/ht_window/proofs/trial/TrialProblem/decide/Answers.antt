use Rattle.std.proofs.Common.{[]}
use Rattle.ht_tree.specs.declared.token.Assign3.{Assign3}
use Rattle.ht_search.proofs.WindowStepLaws.{window_decides}
use Rattle.ht_window.proofs.TrialLaws.{undecided_here, legal_here}
use Rattle.ht_window.proofs.trial.TrialProblem.decide.Goals as goal

pub decide-requires-clause-legal : goal.decide-requires-clause-legal
decide-requires-clause-legal c =
    let s = c.args.self.now in
    legal_here s.window.window s.window.decisions s.seeks c.args.var c.args.value c.requires

pub decide-requires-clause-undecided : goal.decide-requires-clause-undecided
decide-requires-clause-undecided c =
    let s = c.args.self.now in
    undecided_here s.window.window s.window.decisions s.seeks c.args.var c.args.value c.requires

pub returns-clause-ok : goal.returns-clause-ok
returns-clause-ok c =
    let a : Assign3 = record { var = c.args.var; value = c.args.value } in
    window_decides [] c.args.self.now.window.decisions c.decide.new.self.decisions a c.in_ok-decide.ensures.ok
