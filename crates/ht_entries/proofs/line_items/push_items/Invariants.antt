use Rattle.std.proofs.Common.{◌≡◌, ◌++◌, flat_map, drop}
use Rattle.ht_entries.proofs.line_items.push_items.Given as goal

abbrev pub invariant-loop-item : goal.invariant-loop-item
invariant-loop-item g l = l.text.items ++ flat_map g.T.Item.text_of (drop l.item-index l.fn.items)
    ≡ l.fn.text.items ++ flat_map g.T.Item.text_of l.fn.items
