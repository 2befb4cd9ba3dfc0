-- How a job's files are read, or why not.
use Rattle.std.specs.Prelude.{◌≡◌, ◌<◌, ◌≤◌, ℕ, List, Bool, length, IsTrue, IsSome, is_some, None, Some}
use Rattle.ht_ports.specs.Causes.{Rose}
use Rattle.ht_ports.specs.Desk.{DeskView, Holds, IsAfter}
use Rattle.ht_ports.specs.declared.ports.InPort.{InPort}
use Rattle.ht_ports.specs.declared.ports.InPort.TheVariants.{Tests}
use Rattle.ht_net.specs.Circuit.Netlist as net
use Rattle.ht_texts.specs.Tests.{IsTestText, IsMalformedTest}
use Rattle.ht_compact.specs.TestsToCompact.{AreFirstVectors}
use Rattle.ht_asked.specs.Asked.{Asked}
use Rattle.ht_inputs.specs.declared.run_error.RunError.{RunError}
use Rattle.ht_inputs.specs.declared.run_error.RunError.TheVariants.{Usage, ReadFault, WriteFault, NoMemory, BadTests, NoSuchFault}
use Rattle.ht_inputs.specs.Inputs.{AcceptsBefore, AcceptsFile, HasFault, IsStated, IsUnread, JobBasis, HasNetlist, WasRead}
use Rattle.ht_inputs.specs.Jobs.{input_name, order_of}
use Rattle.ht_inputs.specs.Refusals.{IsRefusedFor, LacksFault, RefusesFile, refused_port}

-- ---- reading a file

-- a fault of reading was counted at this port; a steady desk makes one only where it doesn't hold the name
pub record IsReadFault (port : InPort) (name : List ℕ) (old new : DeskView) : Type 0 where
  pub rose : Rose (old.in_faults port) (new.in_faults port)
  pub lacks : IsTrue old.steady → ¬ Holds old name

-- why reading a job's file ends the run: the desk fails, memory runs out, or the text is refused
abbrev pub ReadStops : Asked → JobBasis → InPort → List ℕ → DeskView → DeskView → RunError → Type 0
ReadStops job basis port name old new Usage = ⊥
ReadStops job basis port name old new ReadFault = IsReadFault port name old new
ReadStops job basis port name old new WriteFault = ⊥
ReadStops job basis port name old new NoMemory = Unit {0}
ReadStops job basis port name old new error =
    (refused_port job error ≡ Some port) × WasRead port name (IsRefusedFor job basis error) old

-- Of the tests the first vectors were read, and all where they are fewer than `most`.
pub record AreVectorsUpTo (c : net.Netlist) (most : ℕ) (list : List (List Bool))
    (text : List ℕ) : Type 0 where
  pub first : AreFirstVectors c text list
  pub all : length list < most → IsTestText c text list

-- why reading the first `most` vectors ends the run
abbrev pub TestsStop : net.Netlist → ℕ → List ℕ → DeskView → DeskView → RunError → Type 0
TestsStop c most name old new (BadTests line) =
    WasRead Tests name (λ text. IsMalformedTest c text line) old × (line ≤ most)
TestsStop c most name old new ReadFault = IsReadFault Tests name old new
TestsStop c most name old new NoMemory = Unit {0}
TestsStop c most name old new error = ⊥

-- ---- reading one file after the other

-- Nothing changed but what is left of the in-ports, whether they are open, and their counts of faults.
pub record OnlyReads (old new : DeskView) : Type 0 where
  pub after : IsAfter old new
  pub out_faults : new.out_faults ≡ old.out_faults
  pub file : new.file ≡ old.file
  pub written : new.written ≡ old.written
  pub named : new.named ≡ old.named
  pub is_created : new.is_created ≡ old.is_created
  pub tells : (p : InPort) → is_some (new.left p) ≡ is_some (old.left p)

-- The job's files that come before this place in the order were read, and say what is basis; no other port was touched.
-- A steady desk tells of each name whether there is a file.
pub record HasReadTo (job : Asked) (basis : JobBasis) (place : ℕ) (old new : DeskView) : Type 0
  where
    pub reads : OnlyReads old new
    pub netlist : 0 < place → HasNetlist basis.circuit
    pub stated : IsStated job basis
    pub accepts : (p : InPort) → order_of job p < place → AcceptsFile job basis p old
    pub unread : (p : InPort) → place ≤ order_of job p → IsUnread p old new
    pub others : (p : InPort) → input_name job p ≡ None → IsUnread p old new
    pub tells : (name : List ℕ) → IsTrue old.steady → IsSome (old.file name)

-- ---- why reading ends a run

-- A fault of reading was counted at the port of a file of the job, after those before it were accepted, and those after it weren't
-- opened; at the tests, after the fault that the job names was found. A steady desk makes one only where it doesn't hold the file; it holds those before.
pub record FailsToRead (job : Asked) (old new : DeskView) : Type 0 where
  pub basis : JobBasis
  pub port : InPort
  pub name : List ℕ
  pub rose : Rose (old.in_faults port) (new.in_faults port)
  pub reads : input_name job port ≡ Some name
  pub circuit : 0 < order_of job port → HasNetlist basis.circuit
  pub stated : IsStated job basis
  pub before : AcceptsBefore job basis port old
  pub fault : port ≡ Tests → HasFault job basis.circuit
  pub lacks : IsTrue old.steady → ¬ Holds old name
  pub held : IsTrue old.steady → (p : InPort) (n : List ℕ) → order_of job p < order_of job port
      → input_name job p ≡ Some n
      → Holds old n
  pub unread : (p : InPort) → order_of job port < order_of job p → IsUnread p old new

-- Memory ran out at a place in the order: the files before it were accepted, and those after it weren't opened.
pub record LacksMemory (job : Asked) (old new : DeskView) : Type 0 where
  pub basis : JobBasis
  pub place : ℕ
  pub circuit : 0 < place → HasNetlist basis.circuit
  pub stated : IsStated job basis
  pub before : (p : InPort) → order_of job p < place → AcceptsFile job basis p old
  pub unread : (p : InPort) → place < order_of job p → IsUnread p old new

-- Why reading the files of a job ends its run by an error. Memory may run out at any file.
abbrev pub StopsReading : Asked → DeskView → DeskView → RunError → Type 0
StopsReading job old new Usage = ⊥
StopsReading job old new ReadFault = FailsToRead job old new
StopsReading job old new WriteFault = ⊥
StopsReading job old new NoMemory = LacksMemory job old new
StopsReading job old new (NoSuchFault faults) = LacksFault job faults old new
StopsReading job old new error = RefusesFile job error old new

-- The run ends before anything is written, for a cause; only files of the job were read.
pub record EndsReading (job : Asked) (old new : DeskView) (error : RunError) : Type 0 where
  pub reads : OnlyReads old new
  pub others : (p : InPort) → input_name job p ≡ None → IsUnread p old new
  pub cause : StopsReading job old new error
