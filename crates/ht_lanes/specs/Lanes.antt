-- Three-valued values in the 64 lanes of a word, and what is done lane by lane.
use Rattle.std.specs.Prelude.{◌≡◌, ℕ, List, map, get_or, Bool, ◌==◌, if◌then◌else◌}
use Rattle.ht_items.specs.Bits.{is_set}
use Rattle.std.specs.List.{range_with_len}
use Rattle.ht_tern.specs.declared.tern.Tern.{Tern}
use Rattle.ht_tern.specs.declared.tern.Tern.TheVariants.{Unk}
use Rattle.ht_tern.specs.declared.gate.Kind.{Kind}
use Rattle.ht_tern.specs.Gate.{Operations, gate_value_over, complement_of, and_of, or_of, xor_of, tern_of}

-- a word: the values of its lanes
abbrev pub Lanes : Type 0
Lanes = List Tern

-- the value of lane k
abbrev pub lane : Lanes → ℕ → Tern
lane w k = get_or w k Unk

-- lane k of a word has this value
abbrev pub IsLane : ℕ → Lanes → Tern → Type 0
IsLane k w value = lane w k ≡ value

-- the word whose lanes have these values
abbrev pub each_lane : (ℕ → Tern) → Lanes
each_lane value = map value (range_with_len 0 64)

-- every lane has this value
abbrev pub every_lane : Tern → Lanes
every_lane value = each_lane (λ k. value)

-- word i of a list
abbrev pub word_at : List Lanes → ℕ → Lanes
word_at words i = get_or words i (every_lane Unk)

-- the operations of three values, lane by lane
abbrev pub lane_operations : Operations Lanes
lane_operations = record {
  complement = λ w. each_lane (λ k. complement_of (lane w k));
  conjunction = λ v w. each_lane (λ k. and_of (lane v k) (lane w k));
  disjunction = λ v w. each_lane (λ k. or_of (lane v k) (lane w k));
  parity = λ v w. each_lane (λ k. xor_of (lane v k) (lane w k));
}

-- a gate's value, lane by lane
abbrev pub gate_lanes : Kind → List Lanes → Lanes
gate_lanes kind args = gate_value_over lane_operations (every_lane Unk) kind args

-- the word with another value in one lane
abbrev pub with_lane : Lanes → ℕ → Tern → Lanes
with_lane w k value = each_lane (λ i. if i == k then value else lane w i)

-- the word with a set of lanes stuck, each at its bit of a number
abbrev pub stuck_lanes : ℕ → ℕ → Lanes → Lanes
stuck_lanes lanes bits w = each_lane (λ k. if is_set lanes k then tern_of (is_set bits k)
    else lane w k)
