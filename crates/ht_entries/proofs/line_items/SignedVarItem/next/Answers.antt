use Rattle.ht_entries.proofs.CubesTextLaws.{signed_plain}
use Rattle.ht_entries.proofs.line_items.SignedVarItem.next.Goals as goal

pub next_parsed-requires : goal.next_parsed-requires
next_parsed-requires c = signed_plain
