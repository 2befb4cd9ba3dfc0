use Rattle.std.proofs.Common.{subst, arith}
use Rattle.ht_tree.specs.Walk.Walks.{Node}
use Rattle.ht_search.specs.Outcomes.{IsOutcome}
use Rattle.ht_search.proofs.WindowStepLaws.{window_node}
use Rattle.ht_tree.specs.Clause.ClauseSearches.{guide_under}
use Rattle.ht_invariant.specs.Trials.{clause_window}
use Rattle.ht_invariant.proofs.trial.explore_under.Goals as goal

pub returns-clause-outcome : goal.returns-clause-outcome
returns-clause-outcome c =
    let t = c.args.trial.now in
    subst (λ (n : Node). IsOutcome (guide_under (clause_window t.window.window t.sought t.clauses.now)) c.args.budget 1
    n c.in_ok-outcome.outcome) (window_node c.search.new.problem.window.decisions) c.in_ok-outcome.ensures.outcome

pub returns-clause-enough : goal.returns-clause-enough
returns-clause-enough c = λ left measures h. c.in_ok-outcome.ensures.enough left measures (omega (arith, h))
