-- How an engine's fields stand for it.
use Rattle.std.specs.Prelude.{◌≡◌, ◌≤◌, List, Bool, length}
use Rattle.ht_net.specs.declared.fault.Fault.{Fault}
use Rattle.ht_net.specs.Detect.Detection.{IsStart}
use Rattle.ht_faults.specs.Sites.{faults_of}
use Rattle.ht_faults.specs.Classes.{AreClasses}
use Rattle.ht_texts.specs.SearchReports.{IsBudget}
use Rattle.ht_engine.specs.declared.engine.Engine.TheInside.{Inside}
use Rattle.ht_engine.specs.EngineStands.{EngineView}
use Rattle.ht_engine.specs.FirstVectors.{rest_of}
use Rattle.ht_engine.specs.FaultWork.{HoldsIfAny, IsNamedInvariant}
use Rattle.ht_engine.specs.Marks.{AreMarks}

-- An engine by its fields.
abbrev pub engine_of : Inside → EngineView
engine_of a = record {
  circuit = a.circuit.now;
  representatives = a.classes.now;
  settings = a.settings.now;
  named_invariant = a.named_invariant;
  grader = a.tools.grader;
  kinds = a.kinds.items;
  first_awaiting = a.first_awaiting;
  rest = rest_of a.tools.first;
  live = a.live;
}

-- The faults and the grader are the circuit's, each fault has a place for its kind and a mark, and the invariant is the
-- one that is found.
pub record IsEngine (e : EngineView) (listed : List Fault) (marked : List Bool) : Type 0 where
  pub faults : listed ≡ faults_of e.circuit
  pub classes : AreClasses e.circuit e.representatives
  pub circuit : e.grader.machines.circuit ≡ e.circuit
  pub representatives : e.grader.representatives ≡ e.representatives
  pub budget : IsBudget e.settings.budget
  pub kinds : length e.kinds ≡ length e.representatives
  pub first_awaiting : e.first_awaiting ≤ length e.representatives
  pub found : IsNamedInvariant e.circuit e.settings.start e.settings.budget e.named_invariant
  pub holds : HoldsIfAny e.circuit e.named_invariant
  pub latches : IsStart e.circuit e.settings.start
  pub marks : AreMarks e.representatives e.settings marked

-- The fields of an engine, with bases of its circuit, and first vectors that have a bit for each input.
pub record AreEngineFields (a : Inside) : Type 0 where
  pub engine : IsEngine (engine_of a) a.faults.now a.chosen.items
  pub bases : a.tools.bases.circuit ≡ a.circuit.now
  pub width : a.tools.first.width ≡ a.circuit.now.inputs
