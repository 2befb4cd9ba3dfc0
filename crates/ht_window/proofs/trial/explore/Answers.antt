use Rattle.std.proofs.Common.{◌∙◌, ap, sym, subst}
use Rattle.ht_tree.specs.Walk.Walks.{Node}
use Rattle.ht_tree.specs.Walk.Searches.{guide_of}
use Rattle.ht_search.specs.Routes.{Route}
use Rattle.ht_search.specs.Outcomes.{IsOutcome}
use Rattle.ht_search.proofs.WindowStepLaws.{window_node}
use Rattle.ht_window.proofs.trial.explore.Goals as goal

pub returns-clause-outcome : goal.returns-clause-outcome
returns-clause-outcome c =
    subst (λ (n : Node). IsOutcome (guide_of c.args.trial.now.window.window) c.args.budget c.args.unit n
    c.in_ok-outcome.outcome) (window_node c.search.new.problem.window.decisions) c.in_ok-outcome.ensures.outcome

pub returns-clause-closed : goal.returns-clause-closed
returns-clause-closed c = λ closed.
    let old = ap (λ (n : Node). n.decisions) (window_node c.args.trial.now.window.decisions) in
    let new = ap (λ (n : Node). n.decisions) (window_node c.search.new.problem.window.decisions) in
    sym new
    ∙ (ap (λ (t : Route). t.here.node.decisions) (c.in_ok-outcome.ensures.closed closed) ∙ (old ∙ c.requires.start))
