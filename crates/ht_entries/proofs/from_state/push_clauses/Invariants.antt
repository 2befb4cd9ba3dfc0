use Rattle.std.proofs.Common.{◌≡◌, ◌++◌, flat_map, drop}
use Rattle.ht_entries.specs.LineTexts.{lines_text}
use Rattle.ht_entries.specs.FromState.{clause_lines}
use Rattle.ht_entries.proofs.from_state.push_clauses.Given as goal

abbrev pub invariant-loop-clause : goal.invariant-loop-clause
invariant-loop-clause l = l.text.items ++ lines_text (flat_map clause_lines (drop l.clause-index l.fn.clauses))
    ≡ l.fn.text.items ++ lines_text (flat_map clause_lines l.fn.clauses)
