use Rattle.ht_entries.proofs.PairsTextLaws.{ReadsPairs, left_of}
use Rattle.ht_entries.proofs.by_sets.parse_set.Given as goal

abbrev pub invariant-loop-good : goal.invariant-loop-good
invariant-loop-good l = ReadsPairs l.fn.text l.rest l.set (left_of l.good-items l.good-index)
