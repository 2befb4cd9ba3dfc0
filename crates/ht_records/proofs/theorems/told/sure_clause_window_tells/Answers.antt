use Rattle.ht_records.proofs.GrowLaws.{sure_tells}
use Rattle.ht_records.proofs.theorems.told.sure_clause_window_tells.Goals as goal

pub returns : goal.returns
returns d c fault clauses z told frame rises legal sure met =
    record { tells = sure_tells c fault z told frame rises legal sure; met = met }
