use Rattle.std.proofs.Common.{◌≡◌, ◌+◌, ◌*◌, map}
use Rattle.std.specs.List.{range_with_len}
use Rattle.ht_tree.specs.Window.Decisions.{decided_value}
use Rattle.ht_tree.specs.Walk.FoundLists.{bit_or_zero}
use Rattle.ht_window.proofs.vectors.vector.Given as goal

abbrev pub invariant-loop-i : goal.invariant-loop-i
invariant-loop-i l = l.vector.items
    ≡ map (λ i. bit_or_zero (decided_value l.window.decisions (l.frame * l.window.window.circuit.inputs + i)))
    (range_with_len 0 l.i)
