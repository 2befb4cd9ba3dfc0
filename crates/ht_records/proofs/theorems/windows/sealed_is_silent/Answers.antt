use Rattle.ht_net.proofs.SilenceLaws.{sealed_silent}
use Rattle.ht_records.proofs.theorems.windows.sealed_is_silent.Goals as goal

pub returns : goal.returns
returns c = sealed_silent
