use Rattle.std.proofs.Common.{refl}
use Rattle.ht_random.specs.WeightedVectors.{burst_start}
use Rattle.ht_random.proofs.weighted.WeightedVectors.new.Goals as goal

pub invariant_of-result : goal.invariant_of-result
unfolding burst_start
invariant_of-result c = record {
  between = λ e. c.from_seed.ensures;
  within = λ ne. absurd (ne refl);
  weights_are = λ ne. absurd (ne refl);
}
