-- What the weighted vectors of a seed are as contracts see them, and how their fields stand for it.
use Rattle.std.specs.Prelude.{◌≡◌, ◌≢◌, ◌%◌, ◌/◌, ℕ, List, length}
use Rattle.rand_pcg.specs.Lcg.{Lcg}
use Rattle.ht_random.specs.WeightedVectors.{burst_length, burst_start, drawn_weights, in_burst}
use Rattle.ht_random.specs.declared.weighted.WeightedVectors.TheInside.{Inside}

-- How many bits a vector has, the seed, and how many vectors were drawn.
pub record Drawn : Type 0 where
  pub width : ℕ
  pub seed : ℕ
  pub count : ℕ

-- The weighted vectors by their fields: the bits of a vector are as many as the weights.
abbrev pub drawn_of : Inside → Drawn
drawn_of a = record { width = length a.weights.items; seed = a.seed; count = a.count }

-- After k vectors of n bits the words go on where the next burst begins, or in a burst, whose weights are kept.
pub record WordsGoOnAt (n k seed : ℕ) (words : Lcg) (weights : List ℕ) : Type 0 where
  pub between : k % burst_length ≡ 0 → words ≡ burst_start n (k / burst_length) seed
  pub within : k % burst_length ≢ 0 → words ≡ in_burst n (k % burst_length)
      (burst_start n (k / burst_length) seed)
  pub weights_are : k % burst_length ≢ 0 → weights
      ≡ drawn_weights n (burst_start n (k / burst_length) seed)

-- The words and the weights stand after as many vectors as were drawn.
abbrev pub StandsAtCount : Inside → Type 0
StandsAtCount a = WordsGoOnAt (length a.weights.items) a.count a.seed a.words a.weights.items
