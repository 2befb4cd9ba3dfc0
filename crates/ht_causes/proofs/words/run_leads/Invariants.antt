use Rattle.std.proofs.Common.{◌≤◌, ◌-◌, length}
use Rattle.ht_causes.specs.Tracks.{AreRun, IsGoodAlone}
use Rattle.ht_causes.proofs.words.run_leads.Given as goal

abbrev pub invariant-loop-from : goal.invariant-loop-from
invariant-loop-from l = record {
  frame : IsGoodAlone l.circuit l.initial.group.vector l.initial.group.latches l.group;
  run : AreRun l.circuit l.initial.group.vector l.initial.group.latches l.tracks l.leads l.t l.from l.shown.items;
  within : l.from ≤ length l.leads;
}

abbrev pub decreases-loop-from : goal.decreases-loop-from
decreases-loop-from l = length l.leads - l.from
