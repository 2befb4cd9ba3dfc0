-- How the fields of verdicts stand for them.
use Rattle.std.specs.Prelude.{◌≡◌, length}
use Rattle.ht_net.specs.Detect.Detection.{IsStart}
use Rattle.ht_faults.specs.Classes.{AreClasses}
use Rattle.ht_verdicts.specs.declared.verdicts.Verdicts.TheInside.{Inside}
use Rattle.ht_verdicts.specs.Standing.{AllDecide, VerdictsView}

-- the fields as they are seen
abbrev pub verdicts_view : Inside → VerdictsView
verdicts_view a = record {
  circuit = a.circuit.now;
  representatives = a.classes.now;
  start = a.start.now;
  grader = a.grader;
  entries = a.entries.items;
}

-- The grader is that of the circuit and its classes, each fault has a place for an entry, and each entry decides its fault.
pub record AreVerdicts (a : Inside) : Type 0 where
  pub classes : AreClasses a.circuit.now a.classes.now
  pub circuit : a.grader.machines.circuit ≡ a.circuit.now
  pub same : a.grader.representatives ≡ a.classes.now
  pub each : length a.entries.items ≡ length a.classes.now
  pub latches : IsStart a.circuit.now a.start.now
  pub decide : AllDecide (verdicts_view a)
