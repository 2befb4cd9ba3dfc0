use Rattle.ht_records.proofs.RunFamilyLaws.{closed_holds, closed_silent, closed_undetected}
use Rattle.ht_records.proofs.theorems.families.closed_families_hold_all_runs.Goals as goal

pub returns : goal.returns
returns c = record {
  latches = closed_holds;
  from_start = closed_silent;
  from_unknown = closed_undetected;
}
