-- The lines of a demonstration netlist as they are drawn.
use Rattle.std.specs.Prelude.{ℕ, ◌+◌, List, map}
use Rattle.std.specs.List.{range_with_len, flat_map}
use Rattle.rand_pcg.specs.Lcg.{Lcg}
use Rattle.ht_net.specs.declared.net.NetId.{NetId}
use Rattle.ht_statement.specs.Statement.{input_line, output_line, dff_line, gate_line}
use Rattle.ht_statement.specs.StatementText.{statement_line}
use Rattle.ht_demo.specs.Counts.{input_count, first_gate, demo_name}
use Rattle.ht_demo.specs.Draws.{drawn_gate, after_gates, drawn_gate_net}

-- the name of a net
abbrev pub demo_name_of : ℕ → NetId → List ℕ
demo_name_of size net = demo_name size net.0

-- the line of the next gate, with so many nets before it
abbrev pub drawn_gate_line : ℕ → ℕ → Lcg → List ℕ
drawn_gate_line size nets g = statement_line (gate_line (demo_name size nets) (drawn_gate nets g).kind
    (map (demo_name_of size) (drawn_gate nets g).args))

-- the line of flip-flop j
abbrev pub drawn_dff_line : ℕ → Lcg → ℕ → List ℕ
drawn_dff_line size g j =
    statement_line (dff_line (demo_name size (input_count + j)) (demo_name_of size (drawn_gate_net size g j)))

-- the line of an output
abbrev pub demo_output_line : ℕ → NetId → List ℕ
demo_output_line size net = statement_line (output_line (demo_name_of size net))

-- the line of an input
abbrev pub demo_input_line : ℕ → ℕ → List ℕ
demo_input_line size input = statement_line (input_line (demo_name size input))

-- the lines of the first n gates, flip-flops and inputs, and those of outputs
abbrev pub demo_gate_lines : ℕ → Lcg → ℕ → List ℕ
demo_gate_lines size g n =
    flat_map (λ k. drawn_gate_line size (first_gate size + k) (after_gates k g)) (range_with_len 0 n)

-- the lines of the first n flip-flops
abbrev pub demo_dff_lines : ℕ → Lcg → ℕ → List ℕ
demo_dff_lines size g n = flat_map (drawn_dff_line size g) (range_with_len 0 n)

-- the lines of the first n inputs
abbrev pub demo_input_lines : ℕ → ℕ → List ℕ
demo_input_lines size n = flat_map (demo_input_line size) (range_with_len 0 n)

-- the lines of these outputs
abbrev pub demo_output_lines : ℕ → List NetId → List ℕ
demo_output_lines size nets = flat_map (demo_output_line size) nets
