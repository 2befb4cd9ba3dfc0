use Rattle.std.proofs.Common.{◌≡◌, ◌++◌, length}
use Rattle.ht_engine.specs.FirstVectors.{first_of, rest_of}
use Rattle.ht_engine.proofs.first_vectors.first_list.Given as goal

abbrev pub invariant-vectors : goal.invariant-vectors
invariant-vectors l = record {
  width : l.first.width ≡ l.width;
  wide : l.list.width ≡ l.width;
  so_far : l.list.list ++ rest_of l.first ≡ first_of l.width l.settings;
}

abbrev pub decreases-vectors : goal.decreases-vectors
decreases-vectors l = length (rest_of l.first)
