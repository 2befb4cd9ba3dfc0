use Rattle.std.proofs.Common.{◌≡◌, ◌<◌, ℕ, map, drop}
use Rattle.ht_tern.specs.Gate.{polarity_of, folded, operation_of}
use Rattle.ht_lanes.specs.Lanes.{gate_lanes, lane_operations, word_at}
use Rattle.ht_lanes.proofs.four.eval_four.Given as goal

-- the words that are left make of the value the gate's value
abbrev pub invariant-loop-arg : goal.invariant-loop-arg
invariant-loop-arg l =
    (i : ℕ) → i < 4 → polarity_of lane_operations l.kind (folded (operation_of lane_operations l.kind)
    (word_at l.value i) (map (λ four. word_at four i) (drop l.arg-index l.arg-items)))
    ≡ gate_lanes l.kind (map (λ four. word_at four i) l.args)
