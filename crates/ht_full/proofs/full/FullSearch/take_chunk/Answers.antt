use Rattle.ht_full.specs.SearchOf.{full_view}
use Rattle.ht_full.proofs.SearchLaws.{is_chunk}
use Rattle.ht_full.proofs.full.FullSearch.take_chunk.Goals as goal

-- what ran, and what is noted of it
pub returns : goal.returns
returns c =
    is_chunk c.args.self.now c.run_block.new.self (full_view c.self.inside) c.args.block c.chunk_of-chunk.result
    c.note.new.self c.in_ok-ran.ran.spent c.requires.goes c.requires.left c.in_ok-ran.ensures.spent
    c.in_ok-ran.ensures.known c.run_block.ensures.rest c.self.view_is c.chunk_of-chunk.ensures.work c.note.ensures
