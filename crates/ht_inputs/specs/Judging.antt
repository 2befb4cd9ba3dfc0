-- What the reading of a file leaves that is judged line by line.
use Rattle.std.specs.Prelude.{◌≡◌, ◌⊎◌, ◌<◌, ◌≤◌, ◌+◌, ◌++◌, ◌∷◌, ℕ, List, [], Bool, true, false, Option, Vec, length, map, take, get_or, MatchOption}
use Rattle.std.specs.List.{All}
use Rattle.std.specs.declared.alloc.Global.{Global}
use Rattle.ht_ports.specs.Desk.{DeskView}
use Rattle.ht_ports.specs.LineRule.{lines_of, max_text_bytes}
use Rattle.ht_ports.specs.declared.ports.InPort.{InPort}
use Rattle.ht_ports.specs.declared.ports.InPort.TheVariants as in_port
use Rattle.ht_net.specs.Circuit.Netlist.{Netlist, IsCircuit}
use Rattle.ht_faults.specs.Sites.{faults_of}
use Rattle.ht_tern.specs.declared.tern.Tern.{Tern}
use Rattle.ht_net.specs.Frames.Rows.{Rows}
use Rattle.ht_serial.specs.ObservationView.{ObservationView}
use Rattle.ht_dictionary.specs.ResponseTexts.{row_text}
use Rattle.ht_texts.specs.StartTexts.{IsStartLine}
use Rattle.ht_texts.specs.Tests.{IsTooLong, vector_text}
use Rattle.ht_texts.specs.Verdicts.{said_at}
use Rattle.ht_texts.specs.SearchReports.{IsReportFront}
use Rattle.ht_entries.specs.ProofReading.{IsMalformedAfter}
use Rattle.ht_valid.specs.ValidFiles.{AgreesWithTests, Content, IsJustified, IsOwn}
use Rattle.ht_valid.specs.FirstTrouble.{ContradictsTests, IsEvidenceTrouble, IsFaultTrouble, IsFirstFault, IsFirstProofLine}
use Rattle.ht_valid.specs.declared.trouble.Trouble.TheVariants.{Report, Proofs, Fault}
use Rattle.ht_entries.specs.declared.numbered.Numbered.{Numbered}
use Rattle.ht_judge.specs.declared.report_judge.Claims.{Claims}
use Rattle.ht_judge.specs.ReportJudging.{ReportJudgeView, JudgesReport}
use Rattle.ht_judge.specs.ProofJudging.{ProofJudgeView, FollowsProofs, JudgesProofs}
use Rattle.ht_inputs.specs.declared.run_error.RunError.{RunError}
use Rattle.ht_inputs.specs.declared.run_error.RunError.TheVariants.{Denied, ReadFault, NoMemory}
use Rattle.ht_inputs.specs.Inputs.{AreGoodProofs, IsGoodReport, JobBasis, WasRead}
use Rattle.ht_inputs.specs.Refusals.{before_proofs}
use Rattle.ht_inputs.specs.Reading.{IsReadFault}

-- ---- any file

-- no line ends the run with an error, after those before it
abbrev pub AreFine : (List (List ℕ) → List ℕ → RunError → Type 0) → List (List ℕ) → Type 0
AreFine IsWrong lines =
    (k : ℕ) (error : RunError) → k < length lines → ¬ IsWrong (take k lines)
    (get_or lines k []) error

-- The text has these lines, and is no longer than a text may be.
pub record HasTextLines (lines : List (List ℕ)) (text : List ℕ) : Type 0 where
  pub lines_are : lines_of text ≡ lines
  pub short : length text ≤ max_text_bytes

-- The text begins with these lines, and doesn't get too long in them.
pub record HasFront (lines : List (List ℕ)) (text : List ℕ) : Type 0 where
  pub more : List (List ℕ)
  pub lines_are : lines_of text ≡ lines ++ more
  pub short : (n : ℕ) → n ≤ length lines → ¬ IsTooLong text n

-- The line that comes next has more bytes than this, or the text gets too long in it.
pub record HasLongLine (longest : ℕ) (lines : List (List ℕ)) (text : List ℕ) : Type 0 where
  pub front : HasFront lines text
  pub there : length lines < length (lines_of text)
  pub long : (longest < length (get_or (lines_of text) (length lines) []))
      ⊎ IsTooLong text (length lines + 1)

-- A judge stands for the first `most` lines of the file, or for all where they are fewer. The first line has its bytes,
-- and each other at least one.
pub record StandsForFile (Stands : List (List ℕ) → Type 0) (IsWrong : List (List ℕ) → List ℕ
    → RunError → Type 0)
    (most : ℕ) (port : InPort) (name : List ℕ) (old : DeskView) : Type 0 where
  pub lines : List (List ℕ)
  pub stands : Stands lines
  pub fine : AreFine IsWrong lines
  pub few : length (get_or lines 0 []) + length lines ≤ max_text_bytes + 1
  pub fits : length lines ≤ max_text_bytes
  pub upto : length lines ≤ most
  pub front : WasRead port name (HasFront lines) old
  pub whole : length lines < most → WasRead port name (HasTextLines lines) old

-- The file has a line that ends the run with this error, and none before it.
pub record StopsAtLine (IsWrong : List (List ℕ) → List ℕ → RunError → Type 0) (most : ℕ)
    (error : RunError)
    (port : InPort) (name : List ℕ) (old : DeskView) : Type 0 where
  pub before : List (List ℕ)
  pub line : List ℕ
  pub fine : AreFine IsWrong before
  pub upto : length before < most
  pub wrong : IsWrong before line error
  pub read : WasRead port name (HasFront (before ++ line ∷ [])) old

-- A line of it is too long, and those before it are fine.
pub record StopsAtLong (IsWrong : List (List ℕ) → List ℕ → RunError → Type 0)
    (longest most line : ℕ) (port : InPort)
    (name : List ℕ) (old : DeskView) : Type 0 where
  pub before : List (List ℕ)
  pub line_is : line ≡ length before + 1
  pub fine : AreFine IsWrong before
  pub upto : length before < most
  pub read : WasRead port name (HasLongLine longest before) old

-- Why the file wasn't read: the desk failed, memory ran out, or a line ends the run with the error, or is too long.
abbrev pub LinesStop : (List (List ℕ) → List ℕ → RunError → Type 0) → (ℕ → RunError) → ℕ → ℕ
    → InPort → List ℕ
    → DeskView → DeskView → RunError → Type 0
LinesStop IsWrong error_at longest most port name old new error =
    ((error ≡ ReadFault) × IsReadFault port name old new)
    ⊎ (error ≡ NoMemory) ⊎ StopsAtLine IsWrong most error port name old
    ⊎ ((line : ℕ) × (error ≡ error_at line) × StopsAtLong IsWrong longest most line port name old)

-- by what the files are judged: the netlist's circuit, its classes, and what the other files say, with a report or
-- without
abbrev pub judged_basis : Bool → Netlist → List ℕ → Content → JobBasis
judged_basis follows c representatives content = record {
  circuit = c;
  rows = [];
  chosen = [];
  representatives = representatives;
  content = content;
  follows = follows;
}

-- that of files with a report
abbrev pub check_basis : Netlist → List ℕ → Content → JobBasis
check_basis = judged_basis false

-- that of files without one
abbrev pub report_basis : Netlist → List ℕ → Content → JobBasis
report_basis = judged_basis true

-- ---- the report

-- The judge stands for these lines of a report, by the basis.
pub record StandsForReport (v : ReportJudgeView) (basis : JobBasis) (lines : List (List ℕ)) : Type 0
  where
    pub well_formed : IsCircuit basis.circuit
    pub circuit : v.circuit ≡ basis.circuit
    pub representatives : v.representatives ≡ basis.representatives
    pub judges : JudgesReport v basis.content.start basis.content.list lines

-- the line isn't one of a report after these, or contradicts the tests
abbrev pub IsWrongInReport : JobBasis → List (List ℕ) → List ℕ → RunError → Type 0
IsWrongInReport basis before line (Denied (Report number)) = (number ≡ length before + 1)
    × ((¬ IsReportFront basis.circuit basis.representatives (before ++ line ∷ []))
    ⊎ ContradictsTests basis.circuit basis.representatives basis.content.start basis.content.list
    (before ++ line ∷ []))
IsWrongInReport basis before line other = ⊥

-- The report of this name says its part of the basis, and one verdict for each fault, which agrees with the tests.
pub record ReportIsRead (basis : JobBasis) (name : List ℕ) (old : DeskView) : Type 0 where
  pub each : length basis.content.saids ≡ length (faults_of basis.circuit)
  pub agrees : (i : ℕ) → IsOwn basis.circuit basis.representatives i
      → AgreesWithTests basis.circuit basis.content.start basis.content.list i
      (said_at basis.content.saids i)
  pub read : WasRead in_port.Report name
      (IsGoodReport basis.circuit basis.representatives basis.content) old

-- ---- the proofs

-- the judge goes by what a report says, or follows the proofs
abbrev pub JudgesBy : Bool → ProofJudgeView → Content → List (List ℕ) → Type 0
JudgesBy false = JudgesProofs
JudgesBy true = FollowsProofs

-- what is wrong with an entry then
abbrev pub IsTroubleBy : Bool → Netlist → List ℕ → Content → List (List ℕ) → List ℕ → ℕ → Type 0
IsTroubleBy false = IsFaultTrouble
IsTroubleBy true = IsEvidenceTrouble

-- the same by a basis
abbrev pub IsTroubleIn : JobBasis → List (List ℕ) → List ℕ → ℕ → Type 0
IsTroubleIn basis = IsTroubleBy basis.follows basis.circuit basis.representatives
    (before_proofs basis.content)

-- The judge stands for these lines of proofs, by the basis.
pub record StandsForProofs (v : ProofJudgeView) (basis : JobBasis) (lines : List (List ℕ)) : Type 0
  where
    pub circuit : v.circuit ≡ basis.circuit
    pub representatives : v.representatives ≡ basis.representatives
    pub judges : JudgesBy basis.follows v (before_proofs basis.content) lines

-- the line isn't one of proofs after these, or something is wrong with an entry with it
abbrev pub IsWrongInProofs : JobBasis → List (List ℕ) → List ℕ → RunError → Type 0
IsWrongInProofs basis before line (Denied (Proofs number)) = (number ≡ length before + 1)
    × IsMalformedAfter before line
IsWrongInProofs basis before line (Denied (Fault number)) = IsTroubleIn basis before line number
IsWrongInProofs basis before line other = ⊥

-- What is said of each representative agrees with the vectors.
abbrev pub AgreeWithTests : Netlist → List ℕ → Content → Type 0
AgreeWithTests c representatives content = (i : ℕ) → IsOwn c representatives i
    → AgreesWithTests c content.start content.list i (said_at content.saids i)

-- The proofs of this name have the entries of the content, which justify what is said of the faults.
pub record ProofsAreRead (c : Netlist) (representatives : List ℕ) (content : Content)
    (name : List ℕ) (old : DeskView)
    : Type 0 where
  pub justified : IsJustified c representatives content
  pub read : WasRead in_port.Proofs name (AreGoodProofs c representatives content) old

-- The proofs of this name have some entries, which with the vectors justify these claims for the budget.
pub record VerdictsAreRead (c : Netlist) (representatives : List ℕ) (content : Content)
    (name : List ℕ) (old : DeskView)
    (claims : Claims) : Type 0 where
  pub budget : claims.budget ≡ content.budget
  pub each : length claims.saids.items ≡ length (faults_of c)
  pub entries : List Numbered
  pub are : ProofsAreRead c representatives
      (record content { saids = claims.saids.items; entries = entries }) name old

-- why reading proofs ends the run
abbrev pub ProofsStop : JobBasis → List ℕ → DeskView → DeskView → RunError → Type 0
ProofsStop basis name old new (Denied (Proofs line)) =
    WasRead in_port.Proofs name (λ text. IsFirstProofLine (IsTroubleIn basis) text line) old
ProofsStop basis name old new (Denied (Fault number)) =
    WasRead in_port.Proofs name (λ text. IsFirstFault (IsTroubleIn basis) text number) old
ProofsStop basis name old new ReadFault = IsReadFault in_port.Proofs name old new
ProofsStop basis name old new NoMemory = Unit {0}
ProofsStop basis name old new error = ⊥

-- ---- the start, the tests, and the responses

-- The start is that of the first of these lines, or there is none that has it; and there is no second line. A line that
-- is missing is read as an empty one.
pub record StandsForStart (start : Option (Vec Tern Global)) (basis : JobBasis)
    (lines : List (List ℕ)) : Type 0 where
  pub line : MatchOption start
      ((values : List Tern) → ¬ IsStartLine (length basis.circuit.dffs) (get_or lines 0 []) values)
      (λ values. IsStartLine (length basis.circuit.dffs) (get_or lines 0 []) values.items)
  pub only : length lines ≤ 1

-- The vectors are those of these lines of tests.
pub record StandsForTests (v : Rows) (basis : JobBasis) (lines : List (List ℕ)) : Type 0 where
  pub width : v.width ≡ basis.circuit.inputs
  pub lines_are : lines ≡ map vector_text v.list
  pub widths : All (λ (vector : List Bool). length vector ≡ basis.circuit.inputs) v.list

-- The rows are those of these lines of responses, and there are no more than vectors.
pub record StandsForResponses (v : ObservationView) (basis : JobBasis)
    (lines : List (List ℕ)) : Type 0 where
  pub width : v.width ≡ length basis.circuit.outputs
  pub few : length v.rows ≤ length basis.content.list
  pub lines_are : lines ≡ map row_text v.rows
  pub widths : All (λ (row : List Tern). length row ≡ length basis.circuit.outputs) v.rows
