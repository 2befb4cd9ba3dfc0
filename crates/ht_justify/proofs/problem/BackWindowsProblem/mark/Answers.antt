use Rattle.std.proofs.Common.{◌∙◌, ap, arith}
use Rattle.std.proofs.lemmas.List.{length-map}
use Rattle.ht_search.specs.WindowSteps.{point_of, steps_under}
use Rattle.ht_search.proofs.WindowStepLaws.{window_point}
use Rattle.ht_window.specs.States.{WindowState}
use Rattle.ht_justify.specs.BackStates.{BackState}
use Rattle.ht_justify.specs.Stacks.{decisions_of}
use Rattle.ht_justify.proofs.problem.BackWindowsProblem.mark.Goals as goal

pub returns : goal.returns
returns c =
    let v = c.self.inside.above in
    let n = length-map v.items (λ (s : WindowState). s.decisions) in
    window_point (decisions_of v.items) c.self.inside.window.decisions c.len.result c.decision_count.result
    (omega (arith, n)) c.decision_count.ensures
    ∙ ap (λ (s : BackState). point_of (steps_under s.above s.decisions)) c.self.view_is
