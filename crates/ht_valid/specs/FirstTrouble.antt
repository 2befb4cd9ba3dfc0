-- The first trouble of tests, a report and proofs, in the order in which they are read: the tests, the report, and the
-- proofs, each to the first of its lines at which something is wrong.
use Rattle.std.specs.Prelude.{◌≡◌, ◌⊎◌, ◌<◌, ◌≤◌, ◌+◌, ◌-◌, ◌++◌, ◌∷◌, ℕ, List, [], Bool, length, take, Option, Some, None}
use Rattle.std.specs.Option.{ForSome}
use Rattle.ht_ports.specs.LineRule.{lines_of}
use Rattle.ht_tern.specs.declared.tern.Tern.{Tern}
use Rattle.ht_net.specs.Circuit.Netlist.{Netlist}
use Rattle.ht_net.specs.Detect.Detection.{IsFirstFrom}
use Rattle.ht_faults.specs.Classes.{fault_at}
use Rattle.ht_tree.specs.Record.Entries.{AllowsEntry, Passes}
use Rattle.ht_texts.specs.declared.item.Item.TheVariants.{Verdict}
use Rattle.ht_texts.specs.declared.said.Said.{Said}
use Rattle.ht_texts.specs.Tests.{IsTestText, IsMalformedTest, line_at}
use Rattle.ht_texts.specs.WrongLines.{IsFirst}
use Rattle.ht_texts.specs.Verdicts.{said_at}
use Rattle.ht_texts.specs.SearchReports.{IsReportText, IsWrongReportLine}
use Rattle.ht_texts.specs.ReportReading.{ReportReading, ReportReadsTo, last_item}
use Rattle.ht_entries.specs.declared.numbered.Numbered.{Numbered}
use Rattle.ht_entries.specs.ProofReading.{ProofReading, ProofReadsTo, EndsEntry, closed_of, before_first, after_first, within_entry, after_last}
use Rattle.ht_entries.specs.MalformedProofs.{IsWrongProofLine}
use Rattle.ht_valid.specs.declared.trouble.Trouble.{Trouble}
use Rattle.ht_valid.specs.declared.trouble.Trouble.TheVariants.{Tests, Report, Proofs, Fault}
use Rattle.ht_valid.specs.ValidFiles.{AgreesWithTests, Content, HasEntry, IsBacking, IsOwn, NeedsEntry}

-- ---- the report

-- The last of these lines of a report says of a fault what the vectors from the start contradict.
pub record ContradictsTests (c : Netlist) (representatives : List ℕ) (start : List Tern) (list : List (List Bool))
    (lines : List (List ℕ)) : Type 0 where
  pub at : ReportReading
  pub read : ReportReadsTo c representatives lines at
  pub fault : ℕ
  pub said : Said
  pub says : last_item representatives at ≡ Some (Verdict fault said)
  pub contradicts : ¬ AgreesWithTests c start list fault said

-- line n of the report is malformed, or contradicts the tests
abbrev pub IsReportTrouble : Netlist → List ℕ → List Tern → List (List Bool) → List ℕ → ℕ → Type 0
IsReportTrouble c representatives start list text n = IsWrongReportLine c representatives text n
    ⊎ ContradictsTests c representatives start list (take n (lines_of text))

-- ---- the proofs

-- The line is well formed after these lines, and ends this entry or none.
pub record EndsWithLine (before : List (List ℕ)) (line : List ℕ) (new : ProofReading) (ended : Option Numbered)
    : Type 0 where
  pub old : ProofReading
  pub from : ProofReadsTo before old
  pub to : ProofReadsTo (before ++ line ∷ []) new
  pub ends : EndsEntry old new ended

-- The line ends an entry of this number, which isn't right.
pub record EndsWrongEntry (IsRight : Numbered → Type 0) (before : List (List ℕ)) (line : List ℕ) (number : ℕ)
    : Type 0 where
  pub new : ProofReading
  pub ended : Numbered
  pub reads : EndsWithLine before line new (Some ended)
  pub number_is : number ≡ ended.number
  pub wrong : ¬ IsRight ended

-- once entry N is begun, the entries of lower numbers are due, and after `end` all
abbrev pub IsDue : ℕ → ProofReading → Type 0
IsDue i before_first = ⊥
IsDue i (after_first format) = ⊥
IsDue i (within_entry format closed number p) = i + 1 < number
IsDue i (after_last format closed) = Unit {0}

-- Representative i needs an entry, which is due, and has none.
pub record IsMissing (c : Netlist) (representatives : List ℕ) (content : Content) (at : ProofReading) (i : ℕ)
    : Type 0 where
  pub own : IsOwn c representatives i
  pub needs : NeedsEntry (said_at content.saids i)
  pub due : IsDue i at
  pub none : ¬ HasEntry (closed_of at) i

-- The line ends no wrong entry, and this is the least number of a representative whose entry is missing then.
pub record LeavesMissing (c : Netlist) (representatives : List ℕ) (content : Content) (before : List (List ℕ))
    (line : List ℕ) (number : ℕ) : Type 0 where
  pub new : ProofReading
  pub ended : Option Numbered
  pub reads : EndsWithLine before line new ended
  pub right : ForSome ended (IsBacking c representatives content)
  pub counted : 0 < number
  pub missing : IsFirst (IsMissing c representatives content new) (number - 1)

-- With the line, the entry of this number is wrong by what the report says, or is missing.
abbrev pub IsFaultTrouble : Netlist → List ℕ → Content → List (List ℕ) → List ℕ → ℕ → Type 0
IsFaultTrouble c representatives content before line number =
    EndsWrongEntry (IsBacking c representatives content) before line number
    ⊎ LeavesMissing c representatives content before line number

-- Line n of the proofs is there, and with it, after the lines before it, something is wrong with the entry of this number.
pub record IsTroubleAt (IsTrouble : List (List ℕ) → List ℕ → ℕ → Type 0) (text : List ℕ) (n number : ℕ) : Type 0 where
  pub counted : (0 < n) × (n ≤ length (lines_of text))
  pub trouble : IsTrouble (take (n - 1) (lines_of text)) (line_at text n) number

-- Line n of the proofs is malformed, or something is wrong with an entry.
abbrev pub IsProofTrouble : (List (List ℕ) → List ℕ → ℕ → Type 0) → List ℕ → ℕ → Type 0
IsProofTrouble IsTrouble text n = IsWrongProofLine text n ⊎ ((number : ℕ) × IsTroubleAt IsTrouble text n number)

-- Line n of the proofs is malformed, and nothing is wrong before it.
pub record IsFirstProofLine (IsTrouble : List (List ℕ) → List ℕ → ℕ → Type 0) (proofs : List ℕ) (n : ℕ) : Type 0 where
  pub malformed : IsWrongProofLine proofs n
  pub first : IsFirst (IsProofTrouble IsTrouble proofs) n

-- Something is wrong with the entry of this number at a line that is well formed, and nothing is wrong at the lines
-- before.
pub record IsFirstFault (IsTrouble : List (List ℕ) → List ℕ → ℕ → Type 0) (proofs : List ℕ) (number : ℕ) : Type 0 where
  pub line : ℕ
  pub well_formed : ¬ IsWrongProofLine proofs line
  pub wrong : IsTroubleAt IsTrouble proofs line number
  pub first : IsFirst (IsProofTrouble IsTrouble proofs) line

-- ---- the first of all

-- The tests and the report are as valid files have them, from the start. The entries of the content are those of the
-- proofs, which are still to come: there are none.
pub record AreReadTo (c : Netlist) (representatives : List ℕ) (start : List Tern) (tests report : List ℕ)
    (content : Content) : Type 0 where
  pub stated : content.start ≡ start
  pub vectors : IsTestText c tests content.list
  pub reported : IsReportText c representatives report content.budget content.saids
  pub agrees : (i : ℕ) → IsOwn c representatives i
      → AgreesWithTests c content.start content.list i (said_at content.saids i)
  pub none : content.entries ≡ []

-- The files aren't valid, and this is their first trouble in the order in which they are read.
abbrev pub IsFirstTrouble : Netlist → List ℕ → List Tern → List ℕ → List ℕ → List ℕ → Trouble → Type 0
IsFirstTrouble c representatives start tests report proofs (Tests line) = IsMalformedTest c tests line
IsFirstTrouble c representatives start tests report proofs (Report line) = (list : List (List Bool))
    × IsTestText c tests list × IsFirst (IsReportTrouble c representatives start list report) line
IsFirstTrouble c representatives start tests report proofs (Proofs line) = (content : Content)
    × AreReadTo c representatives start tests report content
    × IsFirstProofLine (IsFaultTrouble c representatives content) proofs line
IsFirstTrouble c representatives start tests report proofs (Fault number) = (content : Content)
    × AreReadTo c representatives start tests report content
    × IsFirstFault (IsFaultTrouble c representatives content) proofs number

-- ---- where no report is there

-- The number of the entry is that of a representative; and where the vectors don't detect that fault from the start, the
-- entry passes, and the start allows the state that it names.
pub record IsEvidence (c : Netlist) (representatives : List ℕ) (start : List Tern) (list : List (List Bool))
    (budget : ℕ) (e : Numbered) : Type 0 where
  pub own : IsOwn c representatives (e.number - 1)
  pub counted : 0 < e.number
  pub passes : IsFirstFrom c (fault_at c (e.number - 1)) start list None
      → Passes c start (fault_at c (e.number - 1)) budget e.entry × AllowsEntry start e.entry

-- With the line, an entry of this number ends that is no evidence, whatever the content says of faults.
abbrev pub IsEvidenceTrouble : Netlist → List ℕ → Content → List (List ℕ) → List ℕ → ℕ → Type 0
IsEvidenceTrouble c representatives content =
    EndsWrongEntry (IsEvidence c representatives content.start content.list content.budget)

-- Tests and proofs justify no report for this budget, and this is their first trouble in the order in which they are read.
abbrev pub IsFirstUnjustified : Netlist → List ℕ → List Tern → ℕ → List ℕ → List ℕ → Trouble → Type 0
IsFirstUnjustified c representatives start budget tests proofs (Tests line) = IsMalformedTest c tests line
IsFirstUnjustified c representatives start budget tests proofs (Report line) = ⊥
IsFirstUnjustified c representatives start budget tests proofs (Proofs line) = (list : List (List Bool))
    × IsTestText c tests list
    × IsFirstProofLine (EndsWrongEntry (IsEvidence c representatives start list budget)) proofs line
IsFirstUnjustified c representatives start budget tests proofs (Fault number) = (list : List (List Bool))
    × IsTestText c tests list
    × IsFirstFault (EndsWrongEntry (IsEvidence c representatives start list budget)) proofs number
