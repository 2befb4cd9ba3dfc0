use Rattle.ht_causes.specs.Tracks.{HasRun, IsRunReady}
use Rattle.ht_causes.proofs.causes.run_list.Given as goal

abbrev pub invariant-loop-t : goal.invariant-loop-t
invariant-loop-t l = record {
  ready : IsRunReady l.circuit l.run;
  run : HasRun l.circuit l.classes l.start l.list.list l.t l.run;
}
