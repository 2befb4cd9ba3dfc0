use Rattle.std.proofs.Common.{◌≡◌, take}
use Rattle.ht_engine.proofs.work.copy_clauses.Given as goal

abbrev pub invariant-loop-i : goal.invariant-loop-i
invariant-loop-i l = l.copies.items ≡ take l.i l.clauses
