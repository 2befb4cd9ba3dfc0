use Rattle.std.proofs.Common.{List, length, ap, arith}
use Rattle.ht_pairs.specs.Pairs.{Pair}
use Rattle.ht_engine.proofs.deep.close.Goals as goal

pub rows_of-requires-clause-few : goal.rows_of-requires-clause-few
rows_of-requires-clause-few c =
    let family = ap (λ (l : List (List Pair)). length l) c.deref.ensures.value in
    let least = rw c.in-Some.is at c.in_ok-closing.ensures in
    let each = least.closes.sets in
    let count = c.dffs.ensures in
    omega (arith, family, each, count)
