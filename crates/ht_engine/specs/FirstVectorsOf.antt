-- How fields stand for the first vectors that are left.
use Rattle.std.specs.Prelude.{◌≡◌, drop}
use Rattle.ht_random.specs.RandomVectors.{generator_after, random_vectors}
use Rattle.ht_random.specs.WeightedVectors.{weighted_vectors}
use Rattle.ht_engine.specs.FirstVectors.{FirstView}
use Rattle.ht_engine.specs.declared.first_vectors.FirstVectors.TheInside.{Inside}

-- What is left after so many vectors of each sort.
abbrev pub first_of_fields : Inside → FirstView
first_of_fields a = record {
  width = a.width;
  given = drop a.given a.settings.now.first.list;
  random = drop a.random (random_vectors a.width a.settings.now.random a.settings.now.seed);
  weighted = drop a.weighted (weighted_vectors a.width a.settings.now.weighted a.settings.now.seed);
}

-- The given vectors have the width, and the words and the bursts are those of the vectors to come.
pub record AreFirstFields (a : Inside) : Type 0 where
  pub wide : a.settings.now.first.width ≡ a.width
  pub words : a.words ≡ generator_after a.width a.random a.settings.now.seed
  pub bursts : a.bursts ≡ record { width = a.width; seed = a.settings.now.seed; count = a.weighted }
