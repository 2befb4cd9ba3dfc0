use Rattle.std.proofs.Common.{◌≡◌, ◌++◌, drop}
use Rattle.ht_entries.specs.BySets.{row_lines}
use Rattle.ht_entries.specs.LineTexts.{lines_text}
use Rattle.ht_entries.proofs.by_sets.push_rows.Given as goal

abbrev pub invariant-loop-row : goal.invariant-loop-row
invariant-loop-row l = l.text.items ++ lines_text (row_lines (drop l.row-index l.fn.rows))
    ≡ l.fn.text.items ++ lines_text (row_lines l.fn.rows)
