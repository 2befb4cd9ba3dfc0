-- A full search: its chunks, and its end.
use Rattle.std.specs.Prelude.{◌≡◌, ◌<◌, ◌≤◌, ◌+◌, ℕ, List, Bool, true, false, Some, None}
use Rattle.ht_tern.specs.declared.tern.Tern.{Tern}
use Rattle.ht_net.specs.Circuit.Netlist.{Netlist}
use Rattle.ht_order.specs.declared.block.Block.{Block}
use Rattle.ht_order.specs.declared.order.Chunk.{Chunk}
use Rattle.ht_order.specs.declared.order.Order.{Order}
use Rattle.ht_order.specs.Chunks.{after_block}
use Rattle.ht_order.specs.NextBlocks.{IsNext}
use Rattle.ht_full.specs.Known.{KnowsMore, IsKnownOf, IsStillOpen, KnownView}

-- What is known, what each block brought, and the work that is left.
pub record FullView : Type 0 where
  pub known : KnownView
  pub order : Order
  pub left : ℕ

-- A chunk of the block that goes next led from a to b: the order was told of it, it took some of the work that was left
-- and no more, and the search went on.
pub record IsChunkOf (a : FullView) (block : Block) (chunk : Chunk) (b : FullView) : Type 0 where
  pub goes : IsNext a.order (Some block)
  pub noted : b.order ≡ after_block a.order block chunk
  pub took : 0 < chunk.work
  pub left : b.left + chunk.work ≡ a.left
  pub known : KnowsMore a.known b.known

-- some chunk led from a to b
pub record IsChunk (a b : FullView) : Type 0 where
  pub block : Block
  pub chunk : Chunk
  pub is : IsChunkOf a block chunk b

-- A search is at its end: the work is spent, or nothing is open, or all blocks are over.
pub data IsEnd (a : FullView) : Type 0 where
  spent : a.left ≡ 0 → IsEnd a
  decided : ((i : ℕ) → ¬ IsStillOpen a.known i) → IsEnd a
  over : IsNext a.order None → IsEnd a

-- The answer of a call, true where more is to be done: it ran a chunk. Else it found the search at its end, and left it.
abbrev pub IsChunkOrEnd : FullView → FullView → Bool → Type 0
IsChunkOrEnd a b true = IsChunk a b
IsChunkOrEnd a b false = (b ≡ a) × IsEnd a

-- A search went on from a to its end at b, within the work that was left.
pub record RunsTo (a b : FullView) : Type 0 where
  pub known : KnowsMore a.known b.known
  pub within : b.left ≤ a.left
  pub at_end : IsEnd b

-- A search is of a circuit, its classes and a start, its vectors are the given ones and then others, and it took no more
-- than the work that it was given.
pub record IsFullOf (c : Netlist) (representatives : List ℕ) (start : List Tern)
    (given : List (List Bool)) (chosen : List Bool) (work : ℕ) (s : FullView) : Type 0 where
  pub known : IsKnownOf c representatives start given s.known
  pub choice : s.known.chosen ≡ chosen
  pub within : s.left ≤ work
