use Rattle.std.proofs.Common.{◌<◌, ℕ, get_or}
use Rattle.ht_tree.specs.declared.family_row.FamilyRow.{FamilyRow}
use Rattle.ht_families.proofs.RowLaws.{RiseTo}
use Rattle.ht_families.proofs.rows.names_flip_flops.Given as goal

abbrev pub invariant-loop-i : goal.invariant-loop-i
invariant-loop-i l = record {
  known : (k : ℕ) (d : FamilyRow) → k < l.i → (get_or l.rows k d).dff < l.count;
  rises : RiseTo l.rows l.i;
}
