use Rattle.std.proofs.Common.{length}
use Rattle.ht_entries.specs.ItemTexts.{AreTaken}
use Rattle.ht_entries.proofs.line_items.take_items.Given as goal

abbrev pub invariant-loop-item : goal.invariant-loop-item
invariant-loop-item g l = AreTaken g.T.Item.text_of g.T.Item.HasText l.text l.items.items l.rest

abbrev pub decreases-loop-item : goal.decreases-loop-item
decreases-loop-item g l = length l.rest
