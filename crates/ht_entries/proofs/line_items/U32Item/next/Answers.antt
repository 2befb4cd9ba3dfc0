use Rattle.ht_entries.proofs.CubesTextLaws.{number_plain}
use Rattle.ht_entries.proofs.line_items.U32Item.next.Goals as goal

pub next_parsed-requires : goal.next_parsed-requires
next_parsed-requires c = number_plain
