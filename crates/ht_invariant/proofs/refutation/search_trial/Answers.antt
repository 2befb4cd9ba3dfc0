use Rattle.std.proofs.Common.{◌∙◌, ap, subst}
use Rattle.ht_tree.specs.Walk.Searches.{node_at}
use Rattle.ht_tree.specs.Window.Windows.{SearchWindow}
use Rattle.ht_tree.specs.Window.WindowStatus.{status_at, without_place}
use Rattle.ht_tree.specs.Clause.Clauses.{literals_of_each}
use Rattle.ht_tree.specs.Clause.ClauseWindows.{ClauseWindow}
use Rattle.ht_tree.specs.Clause.ClauseSearches.{guide_under}
use Rattle.ht_search.specs.Outcomes.{IsOutcome}
use Rattle.ht_oneframe.proofs.FoundLaws.{leaves_sure}
use Rattle.ht_invariant.specs.declared.sought.Sought.{Sought}
use Rattle.ht_invariant.specs.declared.sought.Sought.TheVariants.{Difference}
use Rattle.ht_invariant.specs.FromStates.{guide_from}
use Rattle.ht_invariant.specs.Trials.{clause_window}
use Rattle.ht_invariant.proofs.TrialLaws.{sure_under}
use Rattle.ht_invariant.proofs.refutation.search_trial.Goals as goal
use Rattle.ht_invariant.proofs.refutation.search_trial.Goals.{In_ok-outcome}

-- the outcome of a search for a difference
searched : (c : In_ok-outcome) → IsOutcome
    (guide_under (clause_window c.args.trial.now.window.window Difference c.args.trial.now.clauses.now)) c.args.budget 1
    (node_at c.explore_under.new.trial.window.decisions) c.in_ok-outcome.outcome
searched c =
    let t = c.args.trial.now in
    subst (λ (s : Sought). IsOutcome (guide_under (clause_window t.window.window s t.clauses.now)) c.args.budget 1
    (node_at c.explore_under.new.trial.window.decisions) c.in_ok-outcome.outcome) c.requires.sought
    c.in_ok-outcome.ensures.outcome

pub round_of-requires : goal.round_of-requires
round_of-requires c =
    let t = c.args.trial.now in
    let s = c.explore_under.new.trial.window in
    leaves_sure (guide_under (clause_window t.window.window Difference t.clauses.now)) c.args.budget 1 s.window
    s.decisions c.in_ok-outcome.outcome
    (λ sure. ap (λ (v : ClauseWindow). without_place (status_at v.window s.decisions)) c.explore_under.ensures.subject
    ∙ sure_under t.window.window t.clauses.now s.decisions sure)
    (searched (goal.at.round_of-requires c).In_ok-outcome)

pub returns : goal.returns
returns c = λ n f z window.
    let t = c.args.trial.now in
    let s = c.explore_under.new.trial.window in
    let same = ap (λ (w : ClauseWindow). w.window) c.explore_under.ensures.subject in
    c.in_ok-round.ensures n f (guide_from n f (literals_of_each t.clauses.now)) c.args.budget z (same ∙ window)
    (subst (λ (w : SearchWindow). IsOutcome (guide_under (clause_window w Difference t.clauses.now)) c.args.budget 1
    (node_at s.decisions) c.in_ok-outcome.outcome) window (searched (goal.at.returns c).In_ok-outcome))
