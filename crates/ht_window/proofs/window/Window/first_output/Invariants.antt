use Rattle.std.proofs.Common.{◌≡◌, ◌-◌, map, length}
use Rattle.std.specs.List.{find, range_with_len}
use Rattle.ht_tree.specs.declared.window.Spot.TheVariants.{Output}
use Rattle.ht_tree.specs.Window.Places.{output_places}
use Rattle.ht_window.specs.Seen.{shows_at}
use Rattle.ht_window.proofs.window.Window.first_output.Given as goal

abbrev pub invariant-loop-o : goal.invariant-loop-o
invariant-loop-o l =
    find (shows_at l.self.window l.self.decisions l.look) (output_places l.self.window.circuit l.frame)
    ≡ find (shows_at l.self.window l.self.decisions l.look)
    (map (λ o. record { frame = l.frame; spot = Output o })
    (range_with_len l.o (length l.self.window.circuit.outputs - l.o)))
