use Rattle.std.proofs.Common.{take}
use Rattle.ht_faults.specs.Classes.{class_count, own_representatives}
use Rattle.ht_texts.proofs.CountLaws.{AreTallied}
use Rattle.ht_texts.proofs.total.Sums.of.Given as goal

abbrev pub invariant-loop-i : goal.invariant-loop-i
invariant-loop-i l =
    AreTallied (class_count l.classes) l.saids l.search (take l.i-index (own_representatives l.classes)) l.sums
