use Rattle.std.proofs.Common.{◌≡◌, ◌∙◌, ℕ, ap, sym, subst, arith}
use Rattle.std.proofs.lemmas.Result.{IfOk-weaker}
use Rattle.ht_search.specs.declared.outcome.Outcome.{Outcome}
use Rattle.ht_search.specs.Outcomes.{IsOutcome}
use Rattle.ht_tree.specs.Walk.Searches.{guide_of, node_at}
use Rattle.ht_tree.specs.Walk.Walks.{Node}
use Rattle.ht_tree.specs.Window.Places.{state_places}
use Rattle.ht_tree.specs.Window.Windows.{SearchWindow, token_weight}
use Rattle.ht_forward.specs.AheadSearches.{IsAhead}
use Rattle.ht_forward.proofs.ahead.search_trial.Goals as goal

-- the outcome of a search of so many frames is one of the window that the search leaves
outcome_left : (w left : SearchWindow) (frames budget : ℕ) (n : Node) (outcome : Outcome) → w.frames ≡ frames
    → left ≡ w → IsOutcome (guide_of w) budget frames n outcome
    → IsOutcome (guide_of left) budget (token_weight left) n outcome
outcome_left w left frames budget n outcome long stays h =
    subst (λ (v : SearchWindow). IsOutcome (guide_of v) budget (token_weight v) n outcome) (sym stays)
    (subst (λ (unit : ℕ). IsOutcome (guide_of w) budget unit n outcome) (sym long) h)

pub answer-requires-clause-few : goal.answer-requires-clause-few
answer-requires-clause-few c =
    let frames = ap (λ (v : SearchWindow). v.frames) c.explore.ensures.window in
    let long = c.requires.frames in
    let few = c.requires.few in
    omega (arith, frames, long, few)

pub answer-requires-clause-outputs : goal.answer-requires-clause-outputs
answer-requires-clause-outputs c =
    ap (λ (v : SearchWindow). state_places v.circuit v.start) c.explore.ensures.window ∙ c.requires.outputs

pub answer-requires-clause-outcome : goal.answer-requires-clause-outcome
answer-requires-clause-outcome c = (
  c.args.budget,
  outcome_left c.args.trial.now.window.window c.explore.new.trial.window.window c.args.frames c.args.budget
      (node_at c.explore.new.trial.window.decisions) c.in_ok-outcome.outcome c.requires.frames c.explore.ensures.window
      c.in_ok-outcome.ensures.outcome,
)

pub returns : goal.returns
returns c =
    IfOk-weaker c.answer.result _ _ (λ ahead is.
    subst (λ (v : SearchWindow). IsAhead v c.args.budget ahead) c.explore.ensures.window
    (is c.args.budget
    (outcome_left c.args.trial.now.window.window c.explore.new.trial.window.window c.args.frames c.args.budget
    (node_at c.explore.new.trial.window.decisions) c.in_ok-outcome.outcome c.requires.frames c.explore.ensures.window
    c.in_ok-outcome.ensures.outcome))) c.answer.ensures
