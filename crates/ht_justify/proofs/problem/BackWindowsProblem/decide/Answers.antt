use Rattle.std.proofs.Common.{subst}
use Rattle.ht_tree.specs.declared.token.Assign3.{Assign3}
use Rattle.ht_tree.specs.Walk.Walks.{decide}
use Rattle.ht_search.specs.Routes.{MovesOn}
use Rattle.ht_search.specs.WindowSteps.{route_of, steps_under}
use Rattle.ht_search.proofs.WindowStepLaws.{window_decides}
use Rattle.ht_justify.specs.BackStates.{BackState, node_here}
use Rattle.ht_justify.specs.Stacks.{decisions_of}
use Rattle.ht_justify.proofs.ProblemLaws.{undecided_here, legal_here}
use Rattle.ht_justify.proofs.problem.BackWindowsProblem.decide.Goals as goal

pub decide-requires-clause-legal : goal.decide-requires-clause-legal
decide-requires-clause-legal c =
    legal_here c.self.inside c.args.self.now c.self.view_is c.self.invariant c.args.var c.args.value c.requires

pub decide-requires-clause-undecided : goal.decide-requires-clause-undecided
decide-requires-clause-undecided c =
    undecided_here c.self.inside c.args.self.now c.self.view_is c.self.invariant c.args.var c.args.value c.requires

pub returns-clause-ok : goal.returns-clause-ok
returns-clause-ok c =
    let above = decisions_of c.self.inside.above.items in
    let all = c.decide.new.self.decisions in
    let a : Assign3 = record { var = c.args.var; value = c.args.value } in
    subst (λ (s : BackState).
    MovesOn (route_of (steps_under s.above s.decisions)) (route_of (steps_under above all))
    (decide (node_here s) a.var a.value)) c.self.view_is
    (window_decides above c.self.inside.window.decisions all a c.in_ok-decide.ensures.ok)
