-- What the files that a job reads say.
use Rattle.std.specs.Prelude.{◌≡◌, ◌≢◌, ◌<◌, ◌≤◌, ℕ, Bool, true, false, List, length, Option, Some, None, IsSome}
use Rattle.std.specs.List.{All}
use Rattle.ht_ports.specs.Desk.{DeskView}
use Rattle.ht_ports.specs.declared.ports.InPort.{InPort}
use Rattle.ht_ports.specs.declared.ports.InPort.TheVariants.{Netlist, Tests, Report, Proofs, Faults, Extra}
use Rattle.ht_tern.specs.declared.tern.Tern.{Tern}
use Rattle.ht_net.specs.Circuit.Netlist as net
use Rattle.ht_net.specs.Detect.Detection.{IsStart, unknown_state}
use Rattle.ht_bench.specs.Text.{max_netlist_bytes, IsNetlistOf}
use Rattle.ht_texts.specs.FaultListTexts.{IsFaultListText}
use Rattle.ht_texts.specs.StartTexts.{IsStartText}
use Rattle.ht_texts.specs.Tests.{IsTestText}
use Rattle.ht_texts.specs.Verdicts.{said_at}
use Rattle.ht_texts.specs.SearchReports.{IsReportText}
use Rattle.ht_entries.specs.EntryTexts.{IsProofText}
use Rattle.ht_compact.specs.TestsToCompact.{IsTestTextToCompact}
use Rattle.ht_dictionary.specs.ResponseTexts.{IsResponseText}
use Rattle.ht_faults.specs.Sites.{faults_of}
use Rattle.ht_faults.specs.Classes.{AreClasses}
use Rattle.ht_valid.specs.ValidFiles.{AgreesWithTests, Content, IsJustified, IsOwn}
use Rattle.ht_asked.specs.Asked.{Asked}
use Rattle.ht_asked.specs.Table.{Kind, report}
use Rattle.ht_inputs.specs.Jobs.{input_name, judges, may_state_start, order_of, start_name, takes_few}

-- ---- one file

-- the desk tells that the file of this name holds this text, and tells what is left of the port
pub record IsInput (port : InPort) (name text : List ℕ) (desk : DeskView) : Type 0 where
  pub file : desk.file name ≡ Some (Some text)
  pub known : IsSome (desk.left port)

-- the desk doesn't tell that there is no file of this name
abbrev pub MayBeHeld : DeskView → List ℕ → Type 0
MayBeHeld desk name = desk.file name ≢ Some None

-- The file of this name was read: there may be one, and where the desk tells its text, that is so.
pub record WasRead (port : InPort) (name : List ℕ) (IsSo : List ℕ → Type 0) (old : DeskView) : Type
    0 where
  pub there : MayBeHeld old name
  pub told : (text : List ℕ) → IsInput port name text old → IsSo text

-- the port was neither opened nor read, and no fault was counted there
pub record IsUnread (port : InPort) (old new : DeskView) : Type 0 where
  pub left : new.left port ≡ old.left port
  pub is_open : new.is_open port ≡ old.is_open port
  pub in_faults : new.in_faults port ≡ old.in_faults port

-- the text is a netlist of this circuit, and no longer than a netlist may be
pub record IsGoodNetlist (text : List ℕ) (c : net.Netlist) : Type 0 where
  pub stands : IsNetlistOf text c
  pub short : length text ≤ max_netlist_bytes

-- some text is a netlist of the circuit
abbrev pub HasNetlist : net.Netlist → Type 0
HasNetlist c = (text : List ℕ) × IsGoodNetlist text c

-- ---- all files of a job

-- each vector has a value for each input
abbrev pub AreVectorsOf : net.Netlist → List (List Bool) → Type 0
AreVectorsOf c list = All (λ (vector : List Bool). length vector ≡ c.inputs) list

-- What the files say, by which a job goes: the netlist's circuit; the start; the vectors of the tests; the rows of the
-- responses; the numbers of the faults that `gen` works on; of `check` and `report` the classes of faults, and what the
-- report and the proofs say; and whether there is no report, so that the verdicts follow the proofs: by this the lines
-- of proofs are judged (`StandsForProofs`), and no clause of `run` speaks of it.
pub record JobBasis : Type 0 where
  pub circuit : net.Netlist
  pub rows : List (List Tern)
  pub chosen : List ℕ
  pub representatives : List ℕ
  pub content : Content
  pub follows : Bool

-- The text is the report of a search that says this, and agrees with the vectors.
pub record IsGoodReport (c : net.Netlist) (representatives : List ℕ) (content : Content)
    (text : List ℕ) : Type 0 where
  pub reported : IsReportText c representatives text content.budget content.saids
  pub agrees : (i : ℕ) → IsOwn c representatives i
      → AgreesWithTests c content.start content.list i (said_at content.saids i)

-- Where the job states no start, that of the basis is all-unknown.
abbrev pub IsStated : Asked → JobBasis → Type 0
IsStated job basis = start_name job ≡ None → basis.content.start ≡ unknown_state basis.circuit

-- The text has these entries, and with the vectors they justify what is said of the faults: each backs what is said of
-- its fault, and none that is needed is missing.
pub record AreGoodProofs (c : net.Netlist) (representatives : List ℕ) (content : Content)
    (text : List ℕ) : Type 0 where
  pub proved : IsProofText content.entries text
  pub justified : IsJustified c representatives content

-- what the netlist says: the circuit and, to a job that judges proofs, the classes of its faults
abbrev pub SaysCircuit : Bool → JobBasis → List ℕ → Type 0
SaysCircuit true basis text = IsGoodNetlist text basis.circuit
    × AreClasses basis.circuit basis.representatives
SaysCircuit false basis text = IsGoodNetlist text basis.circuit

-- the text is that of these vectors, which may be few or any
abbrev pub AreTests : Bool → net.Netlist → List ℕ → List (List Bool) → Type 0
AreTests true c text list = IsTestTextToCompact c text list
AreTests false c text list = IsTestText c text list

-- what the tests say: the vectors
abbrev pub SaysVectors : Bool → JobBasis → List ℕ → Type 0
SaysVectors few basis text = AreTests few basis.circuit text basis.content.list

-- what a further text says: the start, or else the responses
abbrev pub SaysExtra : Bool → JobBasis → List ℕ → Type 0
SaysExtra true basis text = IsStartText (length basis.circuit.dffs) text basis.content.start
SaysExtra false basis text =
    IsResponseText (length basis.circuit.outputs) (length basis.content.list) text basis.rows

-- what the proofs say: the entries, and where `report` reads them it has the budget from its words
abbrev pub SaysProofs : Kind → ℕ → JobBasis → List ℕ → Type 0
SaysProofs report budget basis text =
    (basis.content.budget ≡ budget) × AreGoodProofs basis.circuit basis.representatives
    basis.content text
SaysProofs kind budget basis text = AreGoodProofs basis.circuit basis.representatives basis.content
    text

-- The text of a job's file says its part of the basis.
abbrev pub SaysBasis : Asked → JobBasis → InPort → List ℕ → Type 0
SaysBasis job basis Netlist text = SaysCircuit (judges job.command) basis text
SaysBasis job basis Tests text = SaysVectors (takes_few job.command job.numbers.runs) basis text
SaysBasis job basis Extra text = SaysExtra (may_state_start job) basis text
SaysBasis job basis Faults text = IsFaultListText (length (faults_of basis.circuit)) text
    basis.chosen
SaysBasis job basis Report text = IsGoodReport basis.circuit basis.representatives basis.content
    text
SaysBasis job basis Proofs text = SaysProofs job.command job.numbers.budget basis text

-- the number of a fault, from 1, is that of one of the circuit, where one is given
abbrev pub IsListed : net.Netlist → Option ℕ → Type 0
IsListed c None = Unit {0}
IsListed c (Some number) = number ≤ length (faults_of c)

-- the fault that a job names is one of the circuit
abbrev pub HasFault : Asked → net.Netlist → Type 0
HasFault job c = IsListed c job.numbers.fault

-- The job's file of the port, where it reads one, was read and says its part of the basis.
abbrev pub AcceptsFile : Asked → JobBasis → InPort → DeskView → Type 0
AcceptsFile job basis port old = (name : List ℕ) → input_name job port ≡ Some name
    → WasRead port name (SaysBasis job basis port) old

-- those that come before this one were
abbrev pub AcceptsBefore : Asked → JobBasis → InPort → DeskView → Type 0
AcceptsBefore job basis port old =
    (p : InPort) → order_of job p < order_of job port → AcceptsFile job basis p old

-- All were. And whatever the desk tells: the circuit is that of a netlist; the start has a value for each flip-flop,
-- and is all-unknown where none is stated; each vector has a value for each input.
pub record AcceptsInputs (job : Asked) (basis : JobBasis) (old : DeskView) : Type 0 where
  pub stated : IsStated job basis
  pub each : (port : InPort) → AcceptsFile job basis port old
  pub circuit : IsSome (input_name job Netlist) → HasNetlist basis.circuit
  pub latches : IsStart basis.circuit basis.content.start
  pub widths : AreVectorsOf basis.circuit basis.content.list

-- ---- inputs that a desk tells

-- The desk tells the texts of all files of the job, and they are good; the fault that it names is one of the circuit.
pub record AreGoodInputs (job : Asked) (desk : DeskView) : Type 0 where
  pub texts : InPort → List ℕ
  pub basis : JobBasis
  pub stated : IsStated job basis
  pub fault : HasFault job basis.circuit
  pub told : (p : InPort) (name : List ℕ) → input_name job p ≡ Some name
      → IsInput p name (texts p) desk
  pub say : (p : InPort) (name : List ℕ) → input_name job p ≡ Some name → SaysBasis job basis p
      (texts p)
