use Rattle.std.proofs.Common.{◌∙◌}
use Rattle.ht_tree.proofs.BeginLaws.{open_alone}
use Rattle.ht_justify.proofs.ProblemLaws.{status_here, choice_here, choice_fits_here}
use Rattle.ht_justify.proofs.problem.BackWindowsProblem.pick.Goals as goal

pub pick-requires : goal.pick-requires
pick-requires c =
    open_alone _ (status_here c.self.inside c.args.self.now c.self.view_is c.self.invariant ∙ c.requires)

pub returns-clause-chosen : goal.returns-clause-chosen
returns-clause-chosen c =
    c.pick.ensures.choice ∙ choice_here c.self.inside c.args.self.now c.self.view_is c.self.invariant

pub returns-clause-fits : goal.returns-clause-fits
returns-clause-fits c =
    choice_fits_here c.self.inside c.args.self.now c.self.view_is c.self.invariant c.pick.result c.requires
    c.pick.ensures.legal
