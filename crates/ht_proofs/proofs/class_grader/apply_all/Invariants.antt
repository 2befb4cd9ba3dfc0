use Rattle.std.proofs.Common.{◌≡◌, ◌++◌, List, Bool, take}
use Rattle.ht_tern.specs.declared.tern.Tern.{Tern}
use Rattle.ht_proofs.specs.PackedView.{GraderStandsFor}
use Rattle.ht_proofs.proofs.class_grader.apply_all.Given as goal

abbrev pub invariant-loop-t : goal.invariant-loop-t
invariant-loop-t l = record {
  circuit : l.machines.circuit ≡ l.initial.machines.circuit;
  faults : l.machines.faults ≡ l.initial.machines.faults;
  stands : (start : List Tern) (before : List (List Bool)) → GraderStandsFor l.initial.machines start before
      → GraderStandsFor l.machines start (before ++ take l.t l.list.list);
}
