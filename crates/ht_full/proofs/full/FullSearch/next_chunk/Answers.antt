use Rattle.std.proofs.Common.{Some, subst}
use Rattle.ht_order.specs.NextBlocks.{IsNext}
use Rattle.ht_full.specs.Searches.{FullView}
use Rattle.ht_full.proofs.full.FullSearch.next_chunk.Goals as goal

-- the order says so
pub take_chunk-requires-clause-goes : goal.take_chunk-requires-clause-goes
take_chunk-requires-clause-goes c =
    subst (λ (s : FullView). IsNext s.order (Some c.in-Some.block)) c.self.view_is c.in-Some.ensures
