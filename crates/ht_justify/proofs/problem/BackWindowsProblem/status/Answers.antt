use Rattle.std.proofs.Common.{◌∙◌, ap}
use Rattle.ht_tree.specs.Window.WindowStatus.{without_place}
use Rattle.ht_justify.proofs.ProblemLaws.{status_here}
use Rattle.ht_justify.proofs.problem.BackWindowsProblem.status.Goals as goal

pub returns : goal.returns
returns c =
    c.without_place.ensures
    ∙ (ap without_place c.status.ensures
    ∙ status_here c.self.inside c.args.self.now c.self.view_is c.self.invariant)
