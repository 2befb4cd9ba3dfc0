use Rattle.std.proofs.Common.{refl}
use Rattle.ht_pairs.proofs.TableLaws.{polarity_results}
use Rattle.ht_pairs.proofs.set.PairSet.polarized.Goals as goal

pub invariant_of-result : goal.invariant_of-result
invariant_of-result c =
    (polarity_results c.args.kind c.self.invariant c.polarity_index-index.ensures.index refl).valid

pub returns : goal.returns
returns c = rw (← c.self.view_is)
    (polarity_results c.args.kind c.self.invariant c.polarity_index-index.ensures.index refl).image
