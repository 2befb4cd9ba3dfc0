use Rattle.std.proofs.Common.{◌≡◌, List, Bool, subst}
use Rattle.std.specs.Prelude.{IfOk, take, filter}
use Rattle.ht_tree.specs.Clause.Invariants.{max_clauses}
use Rattle.ht_invariant.specs.FoundClauses.{candidates_of, is_met_by_each}
use Rattle.ht_invariant.proofs.finding.first_clauses.Goals as goal

pub returns : goal.returns
returns c =
    subst (λ (states : List (List Bool)). IfOk c.kept_candidates-clauses.result
    (λ kept. kept.items ≡ take max_clauses (filter (is_met_by_each states) (candidates_of c.args.state.now))))
    c.in_ok-states.ensures c.kept_candidates-clauses.ensures
