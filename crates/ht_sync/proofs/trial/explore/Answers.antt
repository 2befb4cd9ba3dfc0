use Rattle.std.proofs.Common.{ℕ, subst}
use Rattle.ht_tree.specs.Walk.Searches.{node_at}
use Rattle.ht_tree.specs.Walk.Walks.{Node}
use Rattle.ht_search.specs.Outcomes.{IsOutcome}
use Rattle.ht_search.proofs.WindowStepLaws.{window_node}
use Rattle.ht_forward.specs.Goals.{guide_to}
use Rattle.ht_sync.specs.SyncWindows.{sync_goal}
use Rattle.ht_sync.proofs.trial.explore.Goals as goal

pub returns-clause-outcome : goal.returns-clause-outcome
returns-clause-outcome c =
    let g = guide_to (sync_goal c.args.trial.now.window.window) in
    let after = c.search.new.problem.window.decisions in
    subst (λ (unit : ℕ). IsOutcome g c.args.budget unit (node_at after) c.in_ok-outcome.outcome) c.args.trial.now.known
    (subst (λ (n : Node). IsOutcome g c.args.budget c.args.trial.now.frames n c.in_ok-outcome.outcome)
    (window_node after) c.in_ok-outcome.ensures.outcome)
