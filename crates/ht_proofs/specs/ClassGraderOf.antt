-- How the fields of a grader of classes stand for what it keeps.
use Rattle.std.specs.Prelude.{◌≡◌, length}
use Rattle.ht_faults.specs.Classes.{AreClasses}
use Rattle.ht_proofs.specs.ClassGraderView.{AreOfClasses, ClassGraderView}
use Rattle.ht_proofs.specs.Detections.{ArePlaces}
use Rattle.ht_proofs.specs.declared.class_grader.ClassGrader.TheInside.{Inside}

-- The grader that the stored fields stand for.
abbrev pub class_grader_of : Inside → ClassGraderView
class_grader_of a = record {
  representatives = a.classes.now;
  places = a.places.items;
  machines = a.machines;
  live = a.live;
}

-- The machines are those of all classes of a circuit, and each fault has an entry, which is none or a place of the
-- circuit.
pub record IsClassGrader (g : ClassGraderView) : Type 0 where
  pub classes : AreClasses g.machines.circuit g.representatives
  pub faults : AreOfClasses g.machines g.representatives
  pub each : length g.places ≡ length g.representatives
  pub known : ArePlaces g.machines.circuit g.places

-- The stored fields agree with each other and with the circuit.
abbrev pub AreClassGraderFields : Inside → Type 0
AreClassGraderFields a = IsClassGrader (class_grader_of a)
