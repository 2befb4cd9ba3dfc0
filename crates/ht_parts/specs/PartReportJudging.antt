-- A judge of the report of a search for a part: the lines that it stands for, and why it denies.
use Rattle.std.specs.Prelude.{◌≡◌, ◌⊎◌, ◌<◌, ◌+◌, ◌++◌, ◌∷◌, ℕ, List, [], Bool, true, length, IsTrue, Option, Result, IfOk, IfErr, is_ok}
use Rattle.ht_tern.specs.declared.tern.Tern.{Tern}
use Rattle.ht_net.specs.declared.place.Place.{Place}
use Rattle.ht_net.specs.Circuit.Netlist.{Netlist}
use Rattle.ht_faults.specs.Sites.{faults_of}
use Rattle.ht_texts.specs.declared.item.Item.{Item}
use Rattle.ht_texts.specs.declared.item.Item.TheVariants.{Verdict}
use Rattle.ht_texts.specs.declared.said.Said.{Said}
use Rattle.ht_texts.specs.declared.total.Sums.{Sums}
use Rattle.ht_texts.specs.Verdicts.{said_at}
use Rattle.ht_texts.specs.SearchReports.{IsReportFront, IsSearchReport}
use Rattle.ht_texts.specs.ReportReading.{ReportReading, ReportReadsTo}
use Rattle.ht_texts.specs.ReportStands.{sums_read}
use Rattle.ht_proofs.specs.Detections.{AreFirstDetections, place_at}
use Rattle.ht_valid.specs.ValidFiles.{AgreesWithTests, IsOwn}
use Rattle.ht_valid.specs.declared.trouble.Trouble.TheVariants.{Report}
use Rattle.ht_judge.specs.declared.judge_error.JudgeError.{JudgeError}
use Rattle.ht_judge.specs.declared.judge_error.JudgeError.TheVariants.{Denied, NoMemory}
use Rattle.ht_judge.specs.declared.report_judge.Claims.{Claims}
use Rattle.ht_judge.specs.ReportJudging.{AgreesWithPlace, KeepsSaid}
use Rattle.ht_parts.specs.declared.part.Part.{Part}
use Rattle.ht_parts.specs.Parts.{has_member, is_in_part, part_saids}
use Rattle.ht_parts.specs.TroubleInPart.{ContradictsInPart}

-- What a judge of reports for a part keeps.
pub record PartReportView : Type 0 where
  pub circuit : Netlist
  pub representatives : List ℕ
  pub part : Part
  -- the first detection of each representative
  pub detections : List (Option Place)
  -- how many lines were read, of how many classes they say each verdict, and what they say: the budget, and what is
  -- said of the faults so far
  pub lines_read : ℕ
  pub sums : Sums
  pub budget : ℕ
  pub saids : List Said
  pub live : Bool

-- what a line says agrees with the first detections, if it is the line of a member
abbrev pub AgreesIfMember : List Bool → List (Option Place) → Item → Type 0
AgreesIfMember members places (Verdict fault said) =
    has_member members fault ≡ true → AgreesWithPlace (place_at places fault) said
AgreesIfMember members places item = Unit {0}

-- The judge is live and stands for these lines: they begin a report, and what they say of the part agrees with the vectors.
pub record JudgesPartReport (v : PartReportView) (start : List Tern) (list : List (List Bool))
    (lines : List (List ℕ)) : Type 0 where
  pub live : IsTrue v.live
  pub every : length v.representatives ≡ length (faults_of v.circuit)
  pub first : AreFirstDetections v.circuit v.representatives start list v.detections
  pub at : ReportReading
  pub read : ReportReadsTo v.circuit v.representatives lines at
  pub kept : KeepsSaid at v.budget v.saids
  pub lines_read : v.lines_read ≡ length lines
  pub sums : v.sums ≡ sums_read v.representatives at
  pub agree : (i : ℕ) → i < length v.saids → is_in_part v.representatives v.part i ≡ true
      → AgreesWithTests v.circuit start list i (said_at v.saids i)

-- no report begins with these lines, or the last of them contradicts the vectors and is of the part
abbrev pub IsRefusedInPart : PartReportView → List Tern → List (List Bool) → List (List ℕ) → Type 0
IsRefusedInPart v start list lines = (¬ IsReportFront v.circuit v.representatives lines)
    ⊎ ContradictsInPart v.circuit v.representatives v.part start list lines

-- why the line was denied after these
abbrev pub PartLineDeniedFor : PartReportView → List Tern → List (List Bool) → List (List ℕ)
    → List ℕ → JudgeError → Type 0
PartLineDeniedFor v start list before line (Denied (Report number)) =
    (number ≡ length before + 1) × IsRefusedInPart v start list (before ++ line ∷ [])
PartLineDeniedFor v start list before line (Denied other) = ⊥
PartLineDeniedFor v start list before line NoMemory = Unit {0}

-- What a call with a line leaves, whatever lines the judge stood for.
pub record PartReportJudged (old new : PartReportView) (line : List ℕ)
    (result : Result (Unit {0}) JudgeError) : Type 0 where
  pub circuit : new.circuit ≡ old.circuit
  pub representatives : new.representatives ≡ old.representatives
  pub part : new.part ≡ old.part
  pub live : new.live ≡ is_ok result
  pub taken : (start : List Tern) (list : List (List Bool)) (before : List (List ℕ))
      → JudgesPartReport old start list before
      → IfOk result (λ u. JudgesPartReport new start list (before ++ line ∷ []))
  pub cause : (start : List Tern) (list : List (List Bool)) (before : List (List ℕ))
      → JudgesPartReport old start list before
      → IfErr result (PartLineDeniedFor old start list before line)

-- The lines are a whole report with this budget, which says this and for the part agrees with the vectors.
pub record IsTrueReportInPart (c : Netlist) (representatives : List ℕ) (part : Part)
    (start : List Tern) (list : List (List Bool)) (lines : List (List ℕ)) (budget : ℕ)
    (saids : List Said) : Type 0 where
  pub report : IsSearchReport c representatives lines budget saids
  pub agrees : (i : ℕ) → IsOwn c representatives i → is_in_part representatives part i ≡ true
      → AgreesWithTests c start list i (said_at saids i)

-- The claims are those of a report of these lines: its budget, and what it says of the part, with the others set aside.
pub record AreClaimedInPart (c : Netlist) (representatives : List ℕ) (part : Part)
    (start : List Tern) (list : List (List Bool)) (lines : List (List ℕ)) (claims : Claims)
    : Type 0 where
  pub saids : List Said
  pub says : IsTrueReportInPart c representatives part start list lines claims.budget saids
  pub shown : claims.saids.items ≡ part_saids representatives part saids

-- the report ended too early: the line after its last is missing
abbrev pub PartEndHasCause : PartReportView → List (List ℕ) → JudgeError → Type 0
PartEndHasCause v lines (Denied (Report number)) = (number ≡ length lines + 1)
    × ((budget : ℕ) (saids : List Said)
    → ¬ IsSearchReport v.circuit v.representatives lines budget saids)
PartEndHasCause v lines (Denied other) = ⊥
PartEndHasCause v lines NoMemory = Unit {0}
