-- Which texts a job refuses, and for which error.
use Rattle.std.specs.Prelude.{◌≡◌, ◌≢◌, ◌<◌, ◌≤◌, ℕ, List, [], Bool, true, false, length, Option, Some, None, if◌then◌else◌}
use Rattle.ht_ports.specs.Desk.{DeskView}
use Rattle.ht_ports.specs.declared.ports.InPort.{InPort}
use Rattle.ht_ports.specs.declared.ports.InPort.TheVariants.{Netlist, Tests, Report, Proofs, Faults, Extra}
use Rattle.ht_tern.specs.declared.tern.Tern.{Tern}
use Rattle.ht_net.specs.Circuit.Netlist as net
use Rattle.ht_net.specs.Detect.Detection.{unknown_state}
use Rattle.ht_bench.specs.Text.{max_netlist_bytes, IsNetlistOf, Refuses}
use Rattle.ht_bench.specs.declared.error.BenchError.{BenchError}
use Rattle.ht_bench.specs.declared.error.BenchError.TheVariants as bench
use Rattle.ht_texts.specs.FaultListTexts.{IsMalformedFaultList}
use Rattle.ht_texts.specs.StartTexts.{IsMalformedStart, IsStartText}
use Rattle.ht_texts.specs.Tests.{IsTestText, IsMalformedTest}
use Rattle.ht_compact.specs.TestsToCompact.{HasTooManyVectors, IsMalformedEarly}
use Rattle.ht_dictionary.specs.ResponseTexts.{IsMalformedResponse}
use Rattle.ht_faults.specs.Sites.{faults_of}
use Rattle.ht_faults.specs.Classes.{AreClasses}
use Rattle.ht_valid.specs.ValidFiles.{AreValidFiles, Content}
use Rattle.ht_texts.specs.WrongLines.{IsFirst}
use Rattle.ht_valid.specs.FirstTrouble.{EndsWrongEntry, IsEvidence, IsFaultTrouble, IsFirstFault, IsFirstProofLine, IsReportTrouble}
use Rattle.ht_valid.specs.declared.trouble.Trouble.{Trouble}
use Rattle.ht_valid.specs.declared.trouble.Trouble.TheVariants as trouble
use Rattle.ht_asked.specs.Asked.{Asked}
use Rattle.ht_asked.specs.Table.{Kind, check, report}
use Rattle.ht_inputs.specs.declared.run_error.RunError.{RunError}
use Rattle.ht_inputs.specs.declared.run_error.RunError.TheVariants.{Denied, TooLong, Refused, BadStart, BadTests, TooManyVectors, BadResponses, NoMemory, NoSuchFault, BadFaults}
use Rattle.ht_inputs.specs.Inputs.{AcceptsBefore, HasFault, HasNetlist, IsInput, IsStated, IsUnread, JobBasis, AreGoodProofs, IsGoodNetlist, SaysBasis, WasRead}
use Rattle.ht_inputs.specs.Errors.{exit_status}
use Rattle.ht_inputs.specs.Jobs.{input_name, judges, may_state_start, order_of, start_name, takes_few}

-- ---- why a text is refused

-- The text is the netlist of no circuit, for this cause.
pub record IsRefused (error : BenchError) (text : List ℕ) : Type 0 where
  pub short : length text ≤ max_netlist_bytes
  pub refused : Refuses text error
  pub none : (c : net.Netlist) → ¬ IsNetlistOf text c
  pub not_memory : error ≢ bench.NoMemory

-- the port at which a trouble is found
abbrev pub trouble_port : Trouble → InPort
trouble_port (trouble.Tests line) = Tests
trouble_port (trouble.Report line) = Report
trouble_port (trouble.Proofs line) = Proofs
trouble_port (trouble.Fault number) = Proofs

-- the port whose text the job refuses by an error
abbrev pub refused_port : Asked → RunError → Option InPort
refused_port job TooLong = Some Netlist
refused_port job (Refused error) = Some Netlist
refused_port job (BadStart line) = if may_state_start job then Some Extra else None
refused_port job (BadTests line) = if judges job.command then None else Some Tests
refused_port job TooManyVectors =
    if takes_few job.command job.numbers.runs then Some Tests else None
refused_port job (BadResponses line) = if may_state_start job then None else Some Extra
refused_port job (BadFaults line) = Some Faults
refused_port job (Denied found) = if judges job.command then Some (trouble_port found) else None
refused_port job error = None

-- what the files say before the proofs are read
abbrev pub before_proofs : Content → Content
before_proofs content = record content { entries = [] }

-- With a line of the proofs, after those before it, something is wrong with the entry of a number: by what the report
-- says or, for `report`, by what the vectors show.
abbrev pub IsTroubleFor : Kind → ℕ → JobBasis → List (List ℕ) → List ℕ → ℕ → Type 0
IsTroubleFor report budget basis = EndsWrongEntry
    (IsEvidence basis.circuit basis.representatives basis.content.start basis.content.list budget)
IsTroubleFor kind budget basis = IsFaultTrouble basis.circuit basis.representatives
    (before_proofs basis.content)

-- the same for the budget of a job
abbrev pub IsTroubleOf : Asked → JobBasis → List (List ℕ) → List ℕ → ℕ → Type 0
IsTroubleOf job = IsTroubleFor job.command job.numbers.budget

-- the line of the tests is no vector; where few are taken, only their first lines are judged
abbrev pub IsWrongTest : Bool → net.Netlist → List ℕ → ℕ → Type 0
IsWrongTest true = IsMalformedEarly
IsWrongTest false = IsMalformedTest

-- The text of that port is refused: it has this first trouble, after texts that say the basis. `compact` judges
-- tests by their first `MAX_COMPACTED` + 1 lines.
abbrev pub IsRefusedFor : Asked → JobBasis → RunError → List ℕ → Type 0
IsRefusedFor job basis TooLong text = max_netlist_bytes < length text
IsRefusedFor job basis (Refused error) text = IsRefused error text
IsRefusedFor job basis (BadStart line) text = IsMalformedStart (length basis.circuit.dffs) text line
IsRefusedFor job basis (BadTests line) text =
    IsWrongTest (takes_few job.command job.numbers.runs) basis.circuit text line
IsRefusedFor job basis TooManyVectors text = HasTooManyVectors basis.circuit text
IsRefusedFor job basis (BadResponses line) text =
    IsMalformedResponse (length basis.circuit.outputs) (length basis.content.list) text line
IsRefusedFor job basis (BadFaults line) text = IsMalformedFaultList
    (length (faults_of basis.circuit)) text line
IsRefusedFor job basis (Denied (trouble.Tests line)) text = IsMalformedTest basis.circuit text line
IsRefusedFor job basis (Denied (trouble.Report line)) text =
    IsFirst (IsReportTrouble basis.circuit basis.representatives basis.content.start
    basis.content.list text) line
IsRefusedFor job basis (Denied (trouble.Proofs line)) text =
    IsFirstProofLine (IsTroubleOf job basis) text line
IsRefusedFor job basis (Denied (trouble.Fault number)) text =
    IsFirstFault (IsTroubleOf job basis) text number
IsRefusedFor job basis error text = ⊥

-- The job refuses the text of a file for this error: the files before it say the basis, this one may be there, and
-- those after it weren't opened. Tests, and what is read after them, are refused only where the circuit has the fault
-- that the job names.
pub record RefusesFile (job : Asked) (error : RunError) (old new : DeskView) : Type 0 where
  pub basis : JobBasis
  pub port : InPort
  pub name : List ℕ
  pub at : refused_port job error ≡ Some port
  pub reads : input_name job port ≡ Some name
  pub circuit : 0 < order_of job port → HasNetlist basis.circuit
  pub stated : IsStated job basis
  pub before : AcceptsBefore job basis port old
  pub fault : order_of job Tests ≤ order_of job port → HasFault job basis.circuit
  pub refused : WasRead port name (IsRefusedFor job basis error) old
  pub unread : (p : InPort) → order_of job port < order_of job p → IsUnread p old new

-- ---- why a fault is refused

-- the number is above that of the last fault, which is how many there are
abbrev pub IsAbove : net.Netlist → Option ℕ → ℕ → Type 0
IsAbove c None faults = ⊥
IsAbove c (Some number) faults = (faults ≡ length (faults_of c)) × (faults < number)

-- so is the number of the fault that the job names
abbrev pub NamesAbove : Asked → net.Netlist → ℕ → Type 0
NamesAbove job c faults = IsAbove c job.numbers.fault faults

-- why a number is no fault's
abbrev pub FaultStops : net.Netlist → Option ℕ → RunError → Type 0
FaultStops c number NoMemory = Unit {0}
FaultStops c number (NoSuchFault faults) = IsAbove c number faults
FaultStops c number error = ⊥

-- The files before the tests say the basis, and the fault isn't one of the circuit: no further file was opened.
pub record LacksFault (job : Asked) (faults : ℕ) (old new : DeskView) : Type 0 where
  pub basis : JobBasis
  pub circuit : HasNetlist basis.circuit
  pub stated : IsStated job basis
  pub before : AcceptsBefore job basis Tests old
  pub above : NamesAbove job basis.circuit faults
  pub unread : (p : InPort) → order_of job Tests ≤ order_of job p → IsUnread p old new

-- ---- texts that a desk tells, and a job refuses

-- The text of the netlist is that of a circuit of which this holds.
abbrev pub HasCircuit : (InPort → List ℕ) → (net.Netlist → Type 0) → Type 0
HasCircuit texts IsSo = (c : net.Netlist) × IsGoodNetlist (texts Netlist) c × IsSo c

-- the start that the texts state, or all-unknown where the job states none
abbrev pub IsStartIn : Option (List ℕ) → net.Netlist → (InPort → List ℕ) → List Tern → Type 0
IsStartIn (Some name) c texts start = IsStartText (length c.dffs) (texts Extra) start
IsStartIn None c texts start = start ≡ unknown_state c

-- The tests and the proofs justify what some content says from the start, for this budget.
abbrev pub JustifyReport : net.Netlist → List ℕ → List Tern → ℕ → List ℕ → List ℕ → Type 0
JustifyReport c representatives start budget tests proofs = (content : Content)
    × (content.start ≡ start)
    × (content.budget ≡ budget) × IsTestText c tests content.list
    × AreGoodProofs c representatives content proofs

-- what a command that judges proofs looks for: the files of `check` are valid for the start, those of `report` justify
-- one for its budget
abbrev pub AreValidFor : Kind → ℕ → (InPort → List ℕ) → net.Netlist → List ℕ → List Tern → Type 0
AreValidFor check budget texts c representatives start =
    AreValidFiles c representatives start (texts Tests) (texts Report) (texts Proofs)
AreValidFor report budget texts c representatives start =
    JustifyReport c representatives start budget (texts Tests) (texts Proofs)
AreValidFor kind budget texts c representatives start = Unit {0}

-- A circuit, its classes and a start that the texts say, for which they aren't valid.
abbrev pub AreDenied : Asked → (InPort → List ℕ) → Type 0
AreDenied job texts = HasCircuit texts (λ c. (representatives : List ℕ) × (start : List Tern)
    × AreClasses c representatives × IsStartIn (start_name job) c texts start
    × (¬ AreValidFor job.command job.numbers.budget texts c representatives start))

-- The text of a port is refused for an error, and the texts before it say a basis, of which the netlist says the
-- circuit; the fault that the job names is one of it where the tests, or what comes after them, are refused.
pub record IsRefusedText (job : Asked) (texts : InPort → List ℕ) (port : InPort)
    (status : ℕ) : Type 0 where
  pub error : RunError
  pub status_is : status ≡ exit_status error
  pub at : refused_port job error ≡ Some port
  pub basis : JobBasis
  pub circuit : IsGoodNetlist (texts Netlist) basis.circuit
  pub stated : IsStated job basis
  pub before : (p : InPort) (name : List ℕ) → 0 < order_of job p
      → order_of job p < order_of job port
      → input_name job p ≡ Some name → SaysBasis job basis p (texts p)
  pub fault : order_of job Tests ≤ order_of job port → HasFault job basis.circuit
  pub refused : IsRefusedFor job basis error (texts port)

-- Of the texts up to this port a job refuses one, and then ends with this status: the netlist is that of no circuit; the
-- files that it judges aren't valid, or justify nothing; or the text has a first trouble.
abbrev pub AreRefusedWith : Asked → (InPort → List ℕ) → InPort → ℕ → Type 0
AreRefusedWith job texts Netlist status = (status ≡ 3)
    × ((c : net.Netlist) → ¬ IsGoodNetlist (texts Netlist) c)
AreRefusedWith job texts Report status = ⊥
AreRefusedWith job texts Proofs status = (status ≡ 1) × AreDenied job texts
AreRefusedWith job texts port status = IsRefusedText job texts port status

-- The desk tells texts of the job's files up to a port, of which one is refused with this status.
pub record HasRefusedInputs (job : Asked) (status : ℕ) (desk : DeskView) : Type 0 where
  pub texts : InPort → List ℕ
  pub port : InPort
  pub name : List ℕ
  pub reads : input_name job port ≡ Some name
  pub told : (p : InPort) (name : List ℕ) → order_of job p ≤ order_of job port → input_name job p
      ≡ Some name
      → IsInput p name (texts p) desk
  pub refused : AreRefusedWith job texts port status

-- The desk tells the texts of the job's files before the tests, which are good, and the fault that the job names isn't
-- one of the circuit.
pub record HasNoSuchFault (job : Asked) (desk : DeskView) : Type 0 where
  pub texts : InPort → List ℕ
  pub circuit : net.Netlist
  pub start : List Tern
  pub netlist : IsGoodNetlist (texts Netlist) circuit
  pub started : IsStartIn (start_name job) circuit texts start
  pub told : (p : InPort) (name : List ℕ) → order_of job p < order_of job Tests → input_name job p
      ≡ Some name
      → IsInput p name (texts p) desk
  pub unlisted : ¬ HasFault job circuit
