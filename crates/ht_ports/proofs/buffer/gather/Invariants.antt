use Rattle.std.proofs.Common.{◌≡◌, ◌+◌, ◌-◌, length}
use Rattle.ht_ports.specs.Desk.{Reads}
use Rattle.ht_ports.specs.Buffer.{KeepsRest}
use Rattle.ht_ports.proofs.buffer.gather.Given as goal

abbrev pub invariant-reading : goal.invariant-reading
invariant-reading g l = (l.buffer.room ≡ l.initial.buffer.room) × Reads l.port (g.D.Desk.view l.initial.desk)
    (g.D.Desk.view l.desk) × KeepsRest l.port l.initial.buffer.bytes l.buffer.bytes (g.D.Desk.view l.initial.desk)
    (g.D.Desk.view l.desk)

abbrev pub decreases-reading : goal.decreases-reading
decreases-reading g l = l.limit + 1 - length l.buffer.bytes
