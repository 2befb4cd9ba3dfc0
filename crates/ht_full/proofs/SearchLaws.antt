-- A search that went on from a beginning.
use Rattle.std.proofs.Common.{◌≡◌, ◌≤◌, ◌-◌, ◌<◌, ◌∙◌, ℕ, List, Bool, true, false, Some, max, ap, sym, subst, arith}
use Rattle.ht_tern.specs.declared.tern.Tern.{Tern}
use Rattle.ht_net.specs.Circuit.Netlist.{Netlist}
use Rattle.ht_order.specs.declared.block.Block.{Block}
use Rattle.ht_order.specs.declared.order.Chunk.{Chunk}
use Rattle.ht_order.specs.declared.order.Order.{Order}
use Rattle.ht_order.specs.Chunks.{after_block}
use Rattle.ht_order.specs.NextBlocks.{IsNext}
use Rattle.ht_full.specs.Known.{KnowsMore}
use Rattle.ht_full.specs.Searches.{FullView, IsChunk, IsChunkOf, IsChunkOrEnd, IsEnd, IsFullOf, RunsTo}
use Rattle.ht_full.proofs.KnownLaws.{known_further}

-- what runs to its end is of the same circuit, classes, start and given vectors, within the same work
pub search_runs : (c : Netlist) (representatives : List ℕ) (start : List Tern) (given : List (List Bool))
    (chosen : List Bool) (work : ℕ) (a b : FullView) → IsFullOf c representatives start given chosen work a → RunsTo a b
    → IsFullOf c representatives start given chosen work b
search_runs c representatives start given chosen work a b is runs = record {
  known = known_further c representatives start given a.known b.known is.known runs.known;
  choice = runs.known.chosen ∙ is.choice;
  within = omega (arith, is.within, runs.within);
}

-- a chunk takes work
pub chunk_takes : (a b : FullView) → IsChunk a b → b.left < a.left
chunk_takes a b chunk = omega (arith, chunk.is.took, chunk.is.left)

-- where more is to be done a chunk was run
pub ran_chunk : (a b : FullView) (more : Bool) → IsChunkOrEnd a b more → more ≡ true → IsChunk a b
ran_chunk a b true is same = is
ran_chunk a b false is same = absurd (cc)

-- where nothing more is to be done the search is at its end, as it was before
pub is_at_end : (a b : FullView) (more : Bool) → IsChunkOrEnd a b more → more ≡ false → (b ≡ a) × IsEnd a
is_at_end a b true is same = absurd (cc)
is_at_end a b false is same = is

-- a block ran, what it took left the work, and the order was told
pub is_chunk : (a b v : FullView) (block : Block) (chunk : Chunk) (order : Order) (spent : ℕ)
    → IsNext a.order (Some block) → 0 < a.left → spent ≤ a.left → KnowsMore a.known b.known
    → b ≡ record a { known = b.known } → v ≡ b → chunk.work ≡ max spent 1 → order ≡ after_block v.order block chunk
    → IsChunkOf a block chunk (record { known = v.known; order = order; left = v.left - chunk.work })
is_chunk a b v block chunk order spent goes some within more rest view work noted = record {
  goes = goes;
  noted = noted ∙ ap (λ (o : Order). after_block o block chunk) (ap (λ (s : FullView). s.order) (view ∙ rest));
  took = omega (arith, work);
  left = omega (arith, work, left_is, within, some);
  known = subst (λ (s : FullView). KnowsMore a.known s.known) (sym view) more;
}
  where
    left_is : v.left ≡ a.left
    left_is = ap (λ (s : FullView). s.left) (view ∙ rest)
