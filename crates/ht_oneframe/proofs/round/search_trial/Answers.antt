use Rattle.std.proofs.Common.{◌∙◌, ap, sym, subst}
use Rattle.ht_tree.specs.Walk.Searches.{guide_of, node_at}
use Rattle.ht_tree.specs.Window.Windows.{SearchWindow}
use Rattle.ht_tree.specs.Window.WindowStatus.{status_at, without_place}
use Rattle.ht_tree.proofs.DifferenceLaws.{window_stays}
use Rattle.ht_search.specs.Outcomes.{IsOutcome}
use Rattle.ht_oneframe.specs.Rounds.{guide_in}
use Rattle.ht_oneframe.proofs.FoundLaws.{leaves_sure}
use Rattle.ht_oneframe.proofs.round.search_trial.Goals as goal

pub round_of-requires : goal.round_of-requires
round_of-requires c =
    let w = c.args.trial.now.window.window in
    let s = c.explore.new.trial.window in
    let stays = window_stays w (node_at s.decisions) c.args.trial.now.seeks in
    leaves_sure (guide_of w) c.args.budget 1 s.window s.decisions c.in_ok-outcome.outcome
    (λ sure. ap (λ (v : SearchWindow). without_place (status_at v s.decisions)) (c.explore.ensures.window ∙ sym stays)
    ∙ sure) c.in_ok-outcome.ensures.outcome

pub returns : goal.returns
returns c = λ n f z window.
    let s = c.explore.new.trial.window in
    c.in_ok-round.ensures n f (guide_in n f) c.args.budget z (c.explore.ensures.window ∙ window)
    (subst (λ (w : SearchWindow). IsOutcome (guide_of w) c.args.budget 1 (node_at s.decisions) c.in_ok-outcome.outcome)
    window c.in_ok-outcome.ensures.outcome)
