use Rattle.std.proofs.Common.{◌∙◌, ap, sym}
use Rattle.std.proofs.lemmas.Result.{IfOk-weaker}
use Rattle.ht_justify.specs.Answers.{BackHolds, IsBack}
use Rattle.ht_justify.specs.BackStates.{BackState}
use Rattle.ht_justify.proofs.justification.justify_from_bases.Goals as goal

pub returns-clause-answer : goal.returns-clause-answer
returns-clause-answer c =
    IfOk-weaker c.search_back-back.result _ (IsBack c.args.bases.now.circuit c.args.cube.now c.args.limit c.args.budget)
    (λ back h. (h c.args.bases.now.circuit c.args.cube.now c.args.limit c.requires (sym c.is_wanting.ensures
    ∙ c.if-not-is_wanting.false) (ap (λ (s : BackState). s.first) c.in_ok-windows.ensures.windows)).0)
    c.search_back-back.ensures.answer

pub returns-clause-holds : goal.returns-clause-holds
returns-clause-holds c =
    IfOk-weaker c.search_back-back.result _
    (BackHolds c.args.bases.now.circuit c.args.cube.now c.args.limit c.args.budget)
    (λ back h. (h c.args.bases.now.circuit c.args.cube.now c.args.limit c.requires (sym c.is_wanting.ensures
    ∙ c.if-not-is_wanting.false) (ap (λ (s : BackState). s.first) c.in_ok-windows.ensures.windows)).1)
    c.search_back-back.ensures.answer
