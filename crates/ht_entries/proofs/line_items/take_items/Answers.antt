use Rattle.ht_entries.proofs.ItemLaws.{none_taken, one_taken, taking_is_shorter}
use Rattle.ht_entries.proofs.line_items.take_items.Goals as goal

pub loop-item-init : goal.loop-item-init
loop-item-init g c = rw c.new-items.ensures.items (none_taken g.T.Item.text_of g.T.Item.HasText c.requires
    c.args.text.now)

pub loop-item-preserved : goal.loop-item-preserved
loop-item-preserved g c = rw c.in_ok-push.ensures.items (one_taken g.T.Item.text_of g.T.Item.HasText
    c.requires c.args.text.now c.loop-item.rest.now c.in-Some.after.now c.loop-item.items.items c.in-Some.item
    c.loop-item.invariant c.in-Some.ensures)

pub loop-item-smaller : goal.loop-item-smaller
loop-item-smaller g c = taking_is_shorter g.T.Item.text_of g.T.Item.HasText c.requires
    c.loop-item.rest.now c.in-Some.after.now c.in-Some.item c.in-Some.ensures

pub returns-clause-taken : goal.returns-clause-taken
returns-clause-taken g c = rw c.from_vec.ensures c.loop-item.invariant
