use Rattle.std.proofs.Common.{◌≡◌, List, Bool, length}
use Rattle.ht_tern.specs.declared.tern.Tern.{Tern}
use Rattle.ht_proofs.specs.PackedView.{GraderStandsFor}
use Rattle.ht_proofs.specs.Detections.{ArePlaces, AreWithin}
use Rattle.ht_proofs.proofs.DetectionLaws.{AreFirstSoFar}
use Rattle.ht_proofs.proofs.class_grader.write_places.Given as goal

abbrev pub invariant-loop-k : goal.invariant-loop-k
invariant-loop-k l = record {
  each : length l.places ≡ length l.classes;
  first : (start : List Tern) (list : List (List Bool)) → GraderStandsFor l.machines start list
      → AreWithin l.machines.circuit list l.initial.places
      → AreFirstSoFar l.machines.circuit l.classes start list l.k l.places;
  known : ArePlaces l.machines.circuit l.initial.places → ArePlaces l.machines.circuit l.places;
}
