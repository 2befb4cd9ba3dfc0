-- The demonstration netlist of a size and a seed: sixteen inputs, the gates that are asked for, a flip-flop for every
-- sixteen of them and one more, and up to sixteen outputs.
use Rattle.std.specs.Prelude.{ℕ, ◌+◌, List, map}
use Rattle.std.specs.List.{range_with_len}
use Rattle.rand_pcg.specs.Lcg.{Lcg}
use Rattle.ht_net.specs.declared.net.NetId.{NetId}
use Rattle.ht_net.specs.Circuit.Netlist.{Gate, Netlist}
use Rattle.ht_random.specs.Words.{generator_of, after_words}
use Rattle.ht_demo.specs.Counts.{input_count, dff_count, first_gate, demo_name}
use Rattle.ht_demo.specs.Draws.{drawn_gate, after_gates, drawn_gate_net, drawn_outputs}

-- how many words are drawn for outputs
abbrev pub output_draws : ℕ
output_draws = 16

-- first the gates, each of which reads nets before it
abbrev pub demo_gates : ℕ → Lcg → List Gate
demo_gates size g = map (λ k. drawn_gate (first_gate size + k) (after_gates k g)) (range_with_len 0 size)

-- then the data pins of the flip-flops, one word each
abbrev pub demo_dffs : ℕ → Lcg → List NetId
demo_dffs size g = map (drawn_gate_net size g) (range_with_len 0 (dff_count size))

-- then the outputs
abbrev pub demo_outputs : ℕ → Lcg → List NetId
demo_outputs size g = drawn_outputs size g output_draws

-- a name for each net, by its number
abbrev pub demo_names : ℕ → List (List ℕ)
demo_names size = map (demo_name size) (range_with_len 0 (first_gate size + size))

-- The netlist: the words of the seed's generator go to the gates, then to the flip-flops, then to the outputs.
abbrev pub demo_netlist : ℕ → ℕ → Netlist
demo_netlist size seed =
    let after_all_gates = after_gates size (generator_of seed) in
    record {
      inputs = input_count;
      dffs = demo_dffs size after_all_gates;
      gates = demo_gates size (generator_of seed);
      outputs = demo_outputs size (after_words (dff_count size) after_all_gates);
      names = demo_names size;
    }
