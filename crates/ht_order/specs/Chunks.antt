-- What an order keeps after a chunk.
use Rattle.std.specs.Prelude.{◌&&◌, ◌||◌, ◌+◌, ◌-◌, ◌^◌, Bool, true, false, not, min, if◌then◌else◌, Option, Some, None}
use Rattle.ht_order.specs.declared.block.Block.{Block}
use Rattle.ht_order.specs.declared.block.Block.TheVariants.{Vectors, OneFrame, Targets, ShortRails, Rails, LongRails, Sets}
use Rattle.ht_order.specs.declared.order.Chunk.{Chunk}
use Rattle.ht_order.specs.declared.order.Mark.{Mark}
use Rattle.ht_order.specs.declared.order.Order.{Order}
use Rattle.ht_order.specs.declared.order.TheConstants.{SLOW}
use Rattle.ht_order.specs.declared.tally.Tally.{Tally}
use Rattle.ht_order.specs.Counts.{is_below, may_go, tally_of}
use Rattle.ht_order.specs.Tallies.{after_chunk, new_tally}

-- an order before any chunk
abbrev pub new_order : Order
new_order = record {
  vectors = new_tally;
  one_frame = new_tally;
  targets = new_tally;
  short_rails = new_tally;
  rails = new_tally;
  long_rails = new_tally;
  sets = new_tally;
  fed = false;
  all = 0;
  mark = None;
}

-- another tally for a block
abbrev pub with_tally : Order → Block → Tally → Order
with_tally o Vectors t = record o { vectors = t }
with_tally o OneFrame t = record o { one_frame = t }
with_tally o Targets t = record o { targets = t }
with_tally o ShortRails t = record o { short_rails = t }
with_tally o Rails t = record o { rails = t }
with_tally o LongRails t = record o { long_rails = t }
with_tally o Sets t = record o { sets = t }

-- the tally of the block after its chunk
abbrev pub tally_after : Order → Block → Chunk → Tally
tally_after o block chunk =
    after_chunk (tally_of o block) chunk.classes chunk.work chunk.rate chunk.done

-- With the tally of the block after its chunk, and its work.
abbrev pub with_chunk : Order → Block → Chunk → Order
with_chunk o block chunk = record (with_tally o block (tally_after o block chunk)) {
  all = min (o.all + chunk.work) (2 ^ 64 - 1);
}

-- Bred vectors are fed by lists that other blocks found, and begin again; their own chunk takes them all.
abbrev pub with_lists : Order → Block → Bool → Order
with_lists o Vectors lists = record o { fed = false }
with_lists o block true = record o { fed = true; vectors = record o.vectors { dry = 0 } }
with_lists o block false = o

-- a block that may go brings no less than what counts as slow
abbrev pub is_quick : Order → Block → Bool
is_quick o block = may_go o block && not (is_below o block SLOW)

-- some block is quick
abbrev pub any_quick : Order → Bool
any_quick o = is_quick o Vectors || is_quick o OneFrame || is_quick o Targets
    || is_quick o ShortRails || is_quick o Rails || is_quick o LongRails || is_quick o Sets

-- The mark stands where no block is quick, from the first time on.
abbrev pub next_mark : Order → Option Mark → Option Mark
next_mark o None = Some (record { all = o.all; vectors = o.vectors.work })
next_mark o (Some mark) = Some mark

-- with the mark that stands now
abbrev pub with_mark : Order → Order
with_mark o = record o { mark = if any_quick o then None else next_mark o o.mark }

-- After a chunk of a block: its tally and all work are added to, bred vectors are fed by lists, and the mark is set.
abbrev pub after_block : Order → Block → Chunk → Order
after_block o block chunk = with_mark (with_lists (with_chunk o block chunk) block chunk.lists)
