use Rattle.std.proofs.Common.{◌≡◌}
use Rattle.std.specs.List.{filter, range_with_len}
use Rattle.ht_faults.specs.Classes.{is_representative}
use Rattle.ht_faults.proofs.classes.own_representatives.Given as goal

abbrev pub invariant-loop-i : goal.invariant-loop-i
invariant-loop-i l = l.own.items ≡ filter (is_representative l.by_fault) (range_with_len 0 l.i)
