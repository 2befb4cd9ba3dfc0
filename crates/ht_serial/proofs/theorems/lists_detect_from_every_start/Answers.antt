use Rattle.ht_net.proofs.MoreToldLaws.{detects_from_any, detects_where_refined}
use Rattle.ht_serial.proofs.theorems.lists_detect_from_every_start.Goals as goal

pub returns-clause-refined : goal.returns-clause-refined
returns-clause-refined c = detects_where_refined

pub returns-clause-later : goal.returns-clause-later
returns-clause-later c = detects_from_any
