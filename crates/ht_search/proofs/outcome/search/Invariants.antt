use Rattle.std.proofs.Common.{◌≡◌, ◌*◌, ◌+◌, length}
use Rattle.ht_search.specs.Routes.{back_to, stops}
use Rattle.ht_search.specs.Progressed.{IsWalked}
use Rattle.ht_search.proofs.outcome.search.Given as goal

abbrev pub invariant-loop-progress : goal.invariant-loop-progress
invariant-loop-progress g l = record {
  subject : g.P.Problem.subject l.problem ≡ g.P.Problem.subject l.fn.problem;
  walked : IsWalked (g.P.Problem.guide (g.P.Problem.subject l.problem)) l.start (g.P.Problem.route l.problem)
      l.progress;
  back : back_to (stops (g.P.Problem.route l.problem)) l.start ≡ stops (g.P.Problem.route l.fn.problem);
  weight : length l.progress.tokens.items * l.unit + l.progress.left ≡ l.budget;
}

abbrev pub decreases-loop-progress : goal.decreases-loop-progress
decreases-loop-progress g l = l.progress.left
