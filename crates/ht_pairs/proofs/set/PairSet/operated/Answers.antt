use Rattle.ht_pairs.proofs.TableLaws.{parts_results}
use Rattle.ht_pairs.proofs.set.PairSet.operated.Goals as goal

pub invariant_of-result : goal.invariant_of-result
invariant_of-result c =
    let results = parts_results c.args.kind c.self.invariant c.other.invariant c.operation_index-operation.ensures.index
    c.parts-first.ensures c.parts-second.ensures c.union_of-bits.ensures in
    results.valid

pub returns : goal.returns
returns c =
    rw (← c.self.view_is, ← c.other.view_is)
    let results = parts_results c.args.kind c.self.invariant c.other.invariant c.operation_index-operation.ensures.index
    c.parts-first.ensures c.parts-second.ensures c.union_of-bits.ensures in
    results.image
