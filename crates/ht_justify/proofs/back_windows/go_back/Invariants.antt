use Rattle.std.proofs.Common.{◌≡◌, ◌≤◌, ◌∷◌, ℕ, List, length, reverse}
use Rattle.ht_tern.specs.declared.tern.Tern.{Tern}
use Rattle.ht_net.specs.Circuit.Netlist.{Netlist}
use Rattle.ht_search.specs.Routes.{back_to, stops}
use Rattle.ht_justify.specs.Stacks.{AreUnder, route_at}
use Rattle.ht_justify.proofs.back_windows.go_back.Given as goal

abbrev pub invariant-loop-above : goal.invariant-loop-above
invariant-loop-above l = record {
  back : back_to (stops (route_at l.above.items l.window)) l.point
      ≡ back_to (stops (route_at l.fn.above.items l.fn.window)) l.point;
  level : l.point.level ≤ length l.above.items;
  under : (c : Netlist) (cube : List Tern) (limit : ℕ)
      → AreUnder c cube limit (l.fn.window ∷ reverse l.fn.above.items)
      → AreUnder c cube limit (l.window ∷ reverse l.above.items);
  few : length l.above.items ≤ length l.fn.above.items;
}

abbrev pub decreases-loop-above : goal.decreases-loop-above
decreases-loop-above l = length l.above.items
