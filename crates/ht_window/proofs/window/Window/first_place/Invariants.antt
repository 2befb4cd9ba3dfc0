use Rattle.std.proofs.Common.{◌≡◌, ◌-◌, ◌++◌}
use Rattle.std.specs.Prelude.{flat_map}
use Rattle.std.specs.List.{find, range_with_len}
use Rattle.ht_tree.specs.Window.Places.{output_places, places_of, state_places}
use Rattle.ht_window.specs.Seen.{shows_at}
use Rattle.ht_window.proofs.window.Window.first_place.Given as goal

abbrev pub invariant-loop-frame : goal.invariant-loop-frame
invariant-loop-frame l =
    find (shows_at l.self.window l.self.decisions l.look) (places_of l.self.window)
    ≡ find (shows_at l.self.window l.self.decisions l.look)
    (flat_map (output_places l.self.window.circuit) (range_with_len l.frame (l.self.window.frames - l.frame))
    ++ state_places l.self.window.circuit l.self.window.start)
