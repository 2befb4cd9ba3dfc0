use Rattle.ht_ports.proofs.WroteLaws.{wrote_then}
use Rattle.ht_ports.proofs.pieces.write_pair.Goals as goal

pub returns : goal.returns
returns g c = wrote_then c.in_ok-write_all.ensures c.write_all-2.ensures
