-- The words of the generator of a seed: PCG32 (O'Neill 2014), as the published crates make it from a number.
use Rattle.std.specs.Prelude.{ℕ, zero, suc}
use Rattle.rand_core.specs.Pcg32Seed.{pcg32_seed}
use Rattle.rand_pcg.specs.Lcg.{Lcg}
use Rattle.rand_pcg.specs.Pcg.{pcg32, pcg32_of_seed}

-- The generator of a seed.
unfoldable pub generator_of : ℕ → Lcg
generator_of seed = pcg32_of_seed (pcg32_seed 16 seed)

-- The next word of a generator.
unfoldable pub next_word : Lcg → ℕ
next_word g = (pcg32 g).0

-- The generator after its next word.
unfoldable pub after_word : Lcg → Lcg
after_word g = (pcg32 g).1

-- The generator after n words.
abbrev pub after_words : ℕ → Lcg → Lcg
after_words zero g = g
after_words (suc n) g = after_word (after_words n g)
