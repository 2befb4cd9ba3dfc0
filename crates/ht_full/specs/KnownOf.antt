-- How the fields of what is known stand for it.
use Rattle.std.specs.Prelude.{◌≡◌}
use Rattle.ht_net.specs.Detect.Detection.{IsStart}
use Rattle.ht_faults.specs.Sites.{faults_of}
use Rattle.ht_faults.specs.Classes.{AreClasses}
use Rattle.ht_full.specs.declared.known.Known.TheInside.{Inside}
use Rattle.ht_full.specs.Known.{KnownView}

-- the fields as they are seen
abbrev pub known_view : Inside → KnownView
known_view a = record {
  verdicts = a.verdicts;
  vectors = a.vectors;
  chosen = a.chosen.now;
}

-- The verdicts are of the circuit, its classes and the start, and vectors have a bit for each input.
pub record AreKnownFields (a : Inside) : Type 0 where
  pub circuit : a.verdicts.circuit ≡ a.circuit.now
  pub classes : a.verdicts.representatives ≡ a.classes.now
  pub start : a.verdicts.start ≡ a.start.now
  pub faults : a.faults.now ≡ faults_of a.circuit.now
  pub are : AreClasses a.circuit.now a.classes.now
  pub latches : IsStart a.circuit.now a.start.now
  pub width : a.vectors.width ≡ a.circuit.now.inputs
  pub bred : a.bursts ≡ a.circuit.now.inputs
