use Rattle.std.proofs.Common.{length}
use Rattle.ht_group.specs.StuckTables.{AreStuck}
use Rattle.ht_group.proofs.stuck_lines.StuckLines.clear.Given as goal

abbrev pub invariant-loop-self : goal.invariant-loop-self
invariant-loop-self l = AreStuck l.circuit l.self

abbrev pub decreases-loop-self : goal.decreases-loop-self
decreases-loop-self l = length l.self.faults.items
