use Rattle.std.proofs.Common.{subst}
use Rattle.ht_tree.specs.Window.Windows.{SearchWindow}
use Rattle.ht_tree.specs.Walk.Searches.{node_at}
use Rattle.ht_search.specs.Outcomes.{IsOutcome}
use Rattle.ht_tree.specs.Clause.ClauseSearches.{guide_under}
use Rattle.ht_invariant.specs.declared.sought.Sought.TheVariants.{Breach}
use Rattle.ht_invariant.specs.Trials.{clause_window}
use Rattle.ht_invariant.specs.ClosingRounds.{closing_guide}
use Rattle.ht_invariant.proofs.closing.close.Goals as goal

pub returns-in-Ok-clause-answer : goal.returns-in-Ok-clause-answer
returns-in-Ok-clause-answer c =
    let k = c.args.clause.now in
    let path = c.explore_under-explored.new.trial.window.decisions in
    c.closing_tokens.ensures (closing_guide c.args.window.window.circuit c.args.clauses.now k) c.args.budget path
    (subst (λ (w : SearchWindow). IsOutcome
    (guide_under (clause_window w (Breach k.first k.second) c.args.clauses.now)) c.args.budget 1
    (node_at path) c.in-Ok.outcome) c.requires.good
    (rw c.in-Ok.is at c.explore_under-explored.ensures.outcome))
