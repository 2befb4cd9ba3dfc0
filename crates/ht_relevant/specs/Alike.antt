-- Sets of pairs in which the two machines are alike.
use Rattle.std.specs.Prelude.{◌≡◌, List}
use Rattle.ht_pairs.specs.Pairs.{Pair, IsMember}

-- A set of one pair or more, each with the same value in both machines.
pub record IsAlike (set : List Pair) : Type 0 where
  pub some : Pair
  pub member : IsMember some set
  pub alike : (p : Pair) → IsMember p set → p.good ≡ p.faulty
