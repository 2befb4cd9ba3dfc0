use Rattle.std.proofs.Common.{◌≡◌, ◌+◌, map}
use Rattle.std.specs.List.{range_with_len}
use Rattle.ht_tree.specs.Window.Decisions.{decided_value}
use Rattle.ht_tree.specs.Window.Nodes.{or_unknown}
use Rattle.ht_justify.proofs.cube.decided_cube.Given as goal

abbrev pub invariant-loop-j : goal.invariant-loop-j
invariant-loop-j l =
    l.cube
    ≡ map (λ j. or_unknown (decided_value l.window.decisions (l.window.window.circuit.inputs + j)))
    (range_with_len 0 l.j)
