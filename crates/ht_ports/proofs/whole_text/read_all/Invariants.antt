use Rattle.std.proofs.Common.{◌-◌, ◌+◌, vec_len}
use Rattle.ht_ports.specs.Desk.{Reads, TookFront}
use Rattle.ht_ports.proofs.whole_text.read_all.Given as goal

abbrev pub invariant-loop-port : goal.invariant-loop-port
invariant-loop-port g l = Reads l.port (g.D.Desk.view l.initial.desk) (g.D.Desk.view l.desk)
    × TookFront l.port l.bytes.items (g.D.Desk.view l.initial.desk) (g.D.Desk.view l.desk)

abbrev pub decreases-loop-port : goal.decreases-loop-port
decreases-loop-port g l = l.limit + 1 - vec_len l.bytes
