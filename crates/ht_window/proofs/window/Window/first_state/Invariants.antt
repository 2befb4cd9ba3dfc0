use Rattle.std.proofs.Common.{◌≡◌, ◌-◌, map, not, length}
use Rattle.std.specs.List.{filter, find, range_with_len}
use Rattle.ht_tree.specs.declared.window.Spot.TheVariants.{State}
use Rattle.ht_tree.specs.Window.Decisions.{is_in}
use Rattle.ht_tree.specs.Window.Places.{state_places}
use Rattle.ht_tree.specs.Window.Windows.{one_frame}
use Rattle.ht_window.specs.Starts.{marked}
use Rattle.ht_window.specs.Seen.{shows_at}
use Rattle.ht_window.proofs.window.Window.first_state.Given as goal

abbrev pub invariant-loop-j : goal.invariant-loop-j
invariant-loop-j l =
    find (shows_at l.self.window l.self.decisions l.look) (state_places l.self.window.circuit (one_frame (marked 0 l.z)))
    ≡ find (shows_at l.self.window l.self.decisions l.look)
    (map (λ j. record { frame = 0; spot = State j })
    (filter (λ j. not (is_in (marked 0 l.z) j)) (range_with_len l.j (length l.self.window.circuit.dffs - l.j))))
