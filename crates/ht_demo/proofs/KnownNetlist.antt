-- A demonstration netlist as model/demo has it: of size 2, seed 7.
use Rattle.std.specs.Prelude.{◌≡◌, ℕ, [], ◌∷◌, refl}
use Rattle.rand_core.specs.Pcg32Seed.{pcg32_seed}
use Rattle.rand_core.specs.Steps.{u32_at, word_bytes}
use Rattle.ht_tern.specs.declared.gate.Kind.TheVariants.{Nand, Xor}
use Rattle.ht_net.specs.declared.net.NetId.{NetId}
use Rattle.ht_random.specs.Words.{generator_of, next_word, after_word}
use Rattle.ht_demo.specs.Draws.{drawn_outputs}
use Rattle.ht_demo.specs.Demo.{demo_netlist}

abbrev net : ℕ → NetId
net number = record { 0 = number }

-- g0 = NAND(i8, i15), g1 = XOR(i5, i14)
gates_of_size_2 : (demo_netlist 2 7).gates
    ≡ record { kind = Nand; args = net 8 ∷ net 15 ∷ [] } ∷ record { kind = Xor; args = net 5 ∷ net 14 ∷ [] } ∷ []
unfolding generator_of next_word after_word pcg32_seed u32_at word_bytes
gates_of_size_2 = refl

-- f0 = DFF(g0)
data_pins_of_size_2 : (demo_netlist 2 7).dffs ≡ net 17 ∷ []
unfolding generator_of next_word after_word pcg32_seed u32_at word_bytes
data_pins_of_size_2 = refl

-- OUTPUT(g0), OUTPUT(g1)
outputs_of_size_2 : (demo_netlist 2 7).outputs ≡ net 17 ∷ net 18 ∷ []
unfolding generator_of next_word after_word pcg32_seed u32_at word_bytes drawn_outputs
outputs_of_size_2 = refl
