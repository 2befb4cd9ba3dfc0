use Rattle.std.proofs.Common.{length, ◌-◌, ◌≤◌, take}
use Rattle.ht_ports.specs.Desk.{Writes, Added}
use Rattle.ht_ports.proofs.whole_text.write_all.Given as goal

abbrev pub invariant-loop-done : goal.invariant-loop-done
invariant-loop-done g l = (l.done ≤ length l.bytes) × Writes l.port (g.D.Desk.view l.initial.desk)
    (g.D.Desk.view l.desk) × Added l.port (take l.done l.bytes) (g.D.Desk.view l.initial.desk) (g.D.Desk.view l.desk)

abbrev pub decreases-loop-done : goal.decreases-loop-done
decreases-loop-done g l = length l.bytes - l.done
