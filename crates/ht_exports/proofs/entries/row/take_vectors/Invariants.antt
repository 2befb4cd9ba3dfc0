use Rattle.std.proofs.Common.{◌≡◌}
use Rattle.ht_exports.proofs.entries.row.take_vectors.Given as goal

abbrev pub invariant-loop : goal.invariant-loop
invariant-loop l = l.vectors.width ≡ l.fn.width
