use Rattle.std.proofs.Common.{◌≡◌, ◌++◌}
use Rattle.ht_entries.specs.BySets.{pairs_text}
use Rattle.ht_entries.proofs.PairsTextLaws.{written, left_of}
use Rattle.ht_entries.proofs.by_sets.push_set.Given as goal

abbrev pub invariant-loop-good : goal.invariant-loop-good
invariant-loop-good l = l.text.items ++ pairs_text (written l.set (left_of l.good-items l.good-index))
    ≡ l.fn.text.items ++ pairs_text l.set
