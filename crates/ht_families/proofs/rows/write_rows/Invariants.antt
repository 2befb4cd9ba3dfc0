use Rattle.std.proofs.Common.{◌≡◌, ℕ, [], drop, get_or}
use Rattle.ht_tree.specs.Record.FamilyRows.{row_set}
use Rattle.ht_families.proofs.rows.write_rows.Given as goal

abbrev pub invariant-loop-row : goal.invariant-loop-row
invariant-loop-row l = (j : ℕ) → row_set (drop l.row-index l.rows) j (get_or l.family j [])
    ≡ row_set l.rows j (get_or l.initial.family j [])
