-- A window by itself, with none above it: how many decisions stand at a point, and that it goes back there.
use Rattle.std.proofs.Common.{◌≡◌, ◌≤◌, ◌∙◌, List, [], length, ap, arith}
use Rattle.ht_tree.specs.declared.token.Assign3.{Assign3}
use Rattle.ht_search.specs.declared.problem.Point.{Point}
use Rattle.ht_search.specs.Routes.{Stands, back_to, stops}
use Rattle.ht_search.specs.WindowSteps.{route_of, steps_under}
use Rattle.ht_search.proofs.WindowBackLaws.{window_back, stands_level, stands_mark}
use Rattle.ht_window.specs.States.{WindowState, undone}

-- a point that stands in a window by itself has a mark of at most the number of decisions
pub alone_few : (decisions : List Assign3) (p : Point) → Stands (route_of (steps_under [] decisions)) p
    → p.mark ≤ length decisions
alone_few decisions p h = let l = stands_level [] decisions p h in stands_mark [] decisions p h (omega (arith, l))

-- a window by itself that goes back to a point that stands has the stops from that point back
pub alone_back : (s t : WindowState) (p : Point) → Stands (route_of (steps_under [] s.decisions)) p
    → t ≡ undone s p.mark
    → stops (route_of (steps_under [] t.decisions)) ≡ back_to (stops (route_of (steps_under [] s.decisions))) p
alone_back s t p h is =
    let l = stands_level [] s.decisions p h in
    ap (λ (s : WindowState). stops (route_of (steps_under [] s.decisions))) is
    ∙ window_back [] s.decisions p h (omega (arith, l))
