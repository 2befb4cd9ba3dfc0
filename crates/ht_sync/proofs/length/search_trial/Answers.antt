use Rattle.std.proofs.Common.{◌∙◌, ℕ, ap, subst}
use Rattle.std.proofs.lemmas.Result.{IfOk-weaker}
use Rattle.ht_net.specs.Circuit.Netlist.{Netlist}
use Rattle.ht_tree.specs.Walk.Searches.{node_at}
use Rattle.ht_tree.specs.Window.Windows.{SearchWindow}
use Rattle.ht_search.specs.Outcomes.{IsOutcome}
use Rattle.ht_forward.specs.Goals.{guide_to}
use Rattle.ht_forward.specs.LengthAnswers.{IsOneLength}
use Rattle.ht_sync.specs.SyncSearches.{FindsSyncList}
use Rattle.ht_sync.specs.SyncWindows.{sync_goal, sync_guide}
use Rattle.ht_sync.proofs.length.search_trial.Goals as goal

pub returns : goal.returns
returns c =
    IfOk-weaker c.answer.result _ _ (λ length is circuit frames begun.
    let n = node_at c.explore.new.trial.window.decisions in
    let stays = c.explore.ensures.window ∙ begun in
    let long = c.explore.new.trial.known ∙ ap (λ (w : SearchWindow). w.frames) stays in
    let says : Netlist → ℕ → Type 0 = λ circuit k.
    IsOutcome (sync_guide circuit k) c.args.budget k n c.in_ok-outcome.outcome
    → IsOneLength (sync_guide circuit k) (FindsSyncList circuit k c.args.budget) k c.args.budget length in
    subst (says circuit) long
    (subst (λ (circuit : Netlist). says circuit c.explore.new.trial.frames) (ap (λ (w : SearchWindow). w.circuit) stays)
    (is c.args.budget))
    (subst (λ (w : SearchWindow). IsOutcome (guide_to (sync_goal w)) c.args.budget w.frames n c.in_ok-outcome.outcome)
    begun c.in_ok-outcome.ensures.outcome)) c.answer.ensures
