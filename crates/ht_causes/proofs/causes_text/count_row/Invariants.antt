use Rattle.std.proofs.Common.{◌≡◌, take}
use Rattle.std.specs.Prelude.{◌==◌}
use Rattle.std.specs.List.{count_by}
use Rattle.ht_faults.specs.Classes.{own_representatives}
use Rattle.ht_causes.specs.Causes.{cause_at, table_row}
use Rattle.ht_causes.proofs.causes_text.count_row.Given as goal

abbrev pub invariant-loop-i : goal.invariant-loop-i
invariant-loop-i l =
    l.count ≡ count_by (λ i. table_row (cause_at l.causes i) == l.row) (take l.i-index (own_representatives l.classes))
