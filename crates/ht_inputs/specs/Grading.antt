-- What the netlist, the start and the tests of a job that judges proofs leave.
use Rattle.std.specs.Prelude.{◌≡◌, ◌≤◌, ℕ, List, Bool, true, length, Option, Some}
use Rattle.ht_ports.specs.Desk.{DeskView}
use Rattle.ht_ports.specs.LineRule.{max_text_bytes}
use Rattle.ht_ports.specs.declared.ports.InPort.TheVariants.{Netlist, Tests, Extra}
use Rattle.ht_tern.specs.declared.tern.Tern.{Tern}
use Rattle.ht_net.specs.Circuit.Netlist as net
use Rattle.ht_net.specs.Circuit.Netlist.{IsCircuit}
use Rattle.ht_net.specs.Detect.Detection.{IsStart}
use Rattle.ht_net.specs.declared.place.Place.{Place}
use Rattle.ht_faults.specs.Sites.{faults_of}
use Rattle.ht_faults.specs.Classes.{AreClasses}
use Rattle.ht_proofs.specs.Detections.{AreFirstDetections}
use Rattle.ht_texts.specs.Tests.{IsTestText}
use Rattle.ht_valid.specs.ValidFiles.{Content}
use Rattle.ht_valid.specs.declared.trouble.Trouble.TheVariants as trouble
use Rattle.ht_asked.specs.Asked.{Asked}
use Rattle.ht_words.specs.declared.job.RunFiles.{RunFiles}
use Rattle.ht_inputs.specs.declared.graded.Graded.{Graded}
use Rattle.ht_inputs.specs.declared.run_error.RunError.{RunError}
use Rattle.ht_inputs.specs.declared.run_error.RunError.TheVariants.{BadTests, Denied}
use Rattle.ht_inputs.specs.Inputs.{AreVectorsOf, HasFault, HasNetlist, IsGoodNetlist, JobBasis, SaysBasis, WasRead}
use Rattle.ht_inputs.specs.Judging.{judged_basis}
use Rattle.ht_inputs.specs.Jobs.{input_name, may_state_start}
use Rattle.ht_inputs.specs.Refusals.{refused_port}
use Rattle.ht_inputs.specs.Reading.{HasReadTo}

-- a malformed line of the tests is the job's first trouble
abbrev pub DeniesTests : Asked → Type 0
DeniesTests job = (line : ℕ) → refused_port job (Denied (trouble.Tests line)) ≡ Some Tests

-- the error by which such a job ends, where this one ends the reading of tests
abbrev pub denied_tests : RunError → RunError
denied_tests (BadTests line) = Denied (trouble.Tests line)
denied_tests error = error

-- The tests of this name were read, and their vectors detect each representative at these places first, from the start.
pub record TestsDetect (c : net.Netlist) (representatives : List ℕ) (start : List Tern)
    (name : List ℕ)
    (old : DeskView) (places : List (Option Place)) : Type 0 where
  pub list : List (List Bool)
  pub few : length list ≤ max_text_bytes
  pub widths : AreVectorsOf c list
  pub read : WasRead Tests name (λ text. IsTestText c text list) old
  pub first : AreFirstDetections c representatives start list places

-- The job reads these files, of which the netlist says the circuit and its classes, and the tests say the vectors; and
-- it denies tests. It names no fault that a circuit might not have.
pub record JudgesFiles (job : Asked) (files : RunFiles) (start : Option (List ℕ)) : Type 0 where
  pub netlist : input_name job Netlist ≡ Some files.netlist
  pub tests : input_name job Tests ≡ Some files.tests
  pub started : input_name job Extra ≡ start
  pub may_start : may_state_start job ≡ true
  pub denies : DeniesTests job
  pub fault : (c : net.Netlist) → HasFault job c
  pub circuit : (basis : JobBasis) (text : List ℕ) → IsGoodNetlist text basis.circuit
      → AreClasses basis.circuit basis.representatives → SaysBasis job basis Netlist text
  pub vectors : (basis : JobBasis) (text : List ℕ)
      → IsTestText basis.circuit text basis.content.list
      → SaysBasis job basis Tests text

-- The faults, the classes and the start are the circuit's, and there is a place or none for each fault.
pub record IsOfCircuit (graded : Graded) : Type 0 where
  pub circuit : IsCircuit graded.circuit
  pub faults : graded.listed.faults ≡ faults_of graded.circuit
  pub classes : AreClasses graded.circuit graded.listed.classes
  pub latches : IsStart graded.circuit graded.start.items
  pub each : length graded.places.items ≡ length (faults_of graded.circuit)

-- The places are where the vectors detect each representative first, from the start.
abbrev pub HasDetections : Graded → List Tern → List (List Bool) → Type 0
HasDetections graded start list =
    AreFirstDetections graded.circuit graded.listed.classes start list graded.places.items

-- The netlist, the start and the tests were read, of whatever job, and say this.
pub record IsGraded (files : RunFiles) (start : Option (List ℕ)) (old new : DeskView)
    (graded : Graded) : Type 0 where
  pub list : List (List Bool)
  pub netlist : HasNetlist graded.circuit
  pub of_circuit : IsOfCircuit graded
  pub few : length list ≤ max_text_bytes
  pub widths : AreVectorsOf graded.circuit list
  pub first : HasDetections graded graded.start.items list
  pub reads : (job : Asked) (follows : Bool) (content : Content) → JudgesFiles job files start
      → content.start ≡ graded.start.items → content.list ≡ list
      → HasReadTo job (judged_basis follows graded.circuit graded.listed.classes content) 3 old new
