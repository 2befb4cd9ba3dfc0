use Rattle.std.proofs.Common.{◌≡◌}
use Rattle.std.specs.List.{filter, range_with_len}
use Rattle.ht_tree.specs.Window.WindowStatus.{is_definite, value_at}
use Rattle.ht_window.specs.Seen.{cube_seen_of}
use Rattle.ht_window.proofs.window.Window.see_cube.Given as goal

abbrev pub invariant-loop-j : goal.invariant-loop-j
invariant-loop-j l = l.seen ≡ cube_seen_of l.self.window l.self.decisions l.cube
    (filter (λ j. is_definite (value_at l.cube j)) (range_with_len 0 l.j))
