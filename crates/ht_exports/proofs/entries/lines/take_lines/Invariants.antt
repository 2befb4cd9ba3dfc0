use Rattle.std.proofs.Common.{IsTrue}
use Rattle.ht_exports.proofs.entries.lines.take_lines.Given as goal

abbrev pub invariant-loop-k : goal.invariant-loop-k
invariant-loop-k g l = IsTrue (g.R.RowReader.is_live l.reader)
