use Rattle.std.proofs.Common.{◌∙◌, ap, subst}
use Rattle.std.specs.Prelude.{IfOk}
use Rattle.ht_tree.specs.Window.Places.{state_places}
use Rattle.ht_tree.specs.Window.Windows.{SearchWindow}
use Rattle.ht_forward.specs.AheadSearches.{IsAhead}
use Rattle.ht_forward.proofs.ahead.search_ahead.Goals as goal

pub search_trial-ahead-requires-clause-frames : goal.search_trial-ahead-requires-clause-frames
search_trial-ahead-requires-clause-frames c = ap (λ (v : SearchWindow). v.frames) c.in_ok-trial.ensures.window

pub search_trial-ahead-requires-clause-outputs : goal.search_trial-ahead-requires-clause-outputs
search_trial-ahead-requires-clause-outputs c =
    ap (λ (v : SearchWindow). state_places v.circuit v.start) c.in_ok-trial.ensures.window ∙ c.requires.outputs

pub returns-clause-answer : goal.returns-clause-answer
returns-clause-answer c =
    subst (λ (v : SearchWindow). IfOk c.search_trial-ahead.result (IsAhead v c.args.budget)) c.in_ok-trial.ensures.window
    c.search_trial-ahead.ensures
