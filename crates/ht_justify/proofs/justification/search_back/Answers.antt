use Rattle.std.proofs.Common.{◌∙◌, subst}
use Rattle.ht_tree.specs.Walk.Searches.{guide_of}
use Rattle.ht_tree.specs.Window.Windows.{SearchWindow}
use Rattle.ht_search.specs.Outcomes.{IsOutcome}
use Rattle.ht_justify.specs.BackStates.{node_here}
use Rattle.ht_justify.proofs.AnswerLaws.{search_answers}
use Rattle.ht_justify.proofs.justification.search_back.Goals as goal

pub returns-clause-answer : goal.returns-clause-answer
returns-clause-answer c = λ n cube limit held wants window.
    let s = c.search.new.problem in
    search_answers n cube limit c.args.budget s c.in_ok-outcome.outcome held wants (c.search.ensures.subject ∙ window)
    (subst (λ (w : SearchWindow). IsOutcome (guide_of w) c.args.budget 1 (node_here s) c.in_ok-outcome.outcome) window
    c.in_ok-outcome.ensures.outcome) c.in_ok-back.back c.in_ok-back.ensures
