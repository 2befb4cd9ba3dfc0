-- How many nets a demonstration netlist has, and their names.
use Rattle.std.specs.Prelude.{ℕ, ◌+◌, ◌-◌, ◌/◌, List, ◌++◌, nat_lt, if◌then◌else◌, codes}
use Rattle.std.specs.Fmt.{decimal}

-- the most gates that may be asked for
abbrev pub max_demo_size : ℕ
max_demo_size = 20000

-- there are sixteen inputs
abbrev pub input_count : ℕ
input_count = 16

-- one flip-flop for every sixteen gates, and one more
abbrev pub dff_count : ℕ → ℕ
dff_count size = size / 16 + 1

-- the number of the first gate's net
abbrev pub first_gate : ℕ → ℕ
first_gate size = input_count + dff_count size

-- Inputs are i0, i1 and so on by input, flip-flops f0, f1 by flip-flop, gates g0, g1 by gate.
abbrev pub demo_name : ℕ → ℕ → List ℕ
demo_name size net =
    if nat_lt net input_count then codes "i" ++ decimal net
    else if nat_lt net (first_gate size) then codes "f" ++ decimal (net - input_count)
    else codes "g" ++ decimal (net - first_gate size)
