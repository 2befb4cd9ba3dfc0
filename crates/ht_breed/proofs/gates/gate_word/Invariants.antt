use Rattle.std.proofs.Common.{◌≡◌, map, drop}
use Rattle.ht_tern.specs.Gate.{polarity_of, folded, operation_of}
use Rattle.ht_lanes.specs.Lanes.{gate_lanes, lane_operations, word_at}
use Rattle.ht_breed.proofs.gates.gate_word.Given as goal

-- the words that are left make of the word the gate's word
abbrev pub invariant-loop-net : goal.invariant-loop-net
invariant-loop-net l =
    polarity_of lane_operations l.kind (folded (operation_of lane_operations l.kind) l.word
    (map (λ net. word_at l.words net) (drop l.net-index l.net-items)))
    ≡ gate_lanes l.kind (map (λ net. word_at l.words net) l.nets)
