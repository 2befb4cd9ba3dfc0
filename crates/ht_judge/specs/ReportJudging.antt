-- A judge of the report of a search: the lines that it stands for, and why it denies.
use Rattle.std.specs.Prelude.{◌≡◌, ◌⊎◌, ◌<◌, ◌+◌, ◌++◌, ◌∷◌, ℕ, List, [], Bool, true, length, IsTrue, Option, Some, None, Result, IfOk, IfErr, is_ok}
use Rattle.ht_tern.specs.declared.tern.Tern.{Tern}
use Rattle.ht_net.specs.declared.place.Place.{Place}
use Rattle.ht_net.specs.Circuit.Netlist.{Netlist}
use Rattle.ht_faults.specs.Classes.{is_representative}
use Rattle.ht_texts.specs.declared.item.Item.{Item}
use Rattle.ht_texts.specs.declared.item.Item.TheVariants.{Head, Verdict, Member, Total}
use Rattle.ht_texts.specs.declared.said.Said.{Said}
use Rattle.ht_texts.specs.declared.said.Said.TheVariants.{Detected, Undetected}
use Rattle.ht_texts.specs.declared.total.Sums.{Sums}
use Rattle.ht_texts.specs.Verdicts.{said_at}
use Rattle.ht_texts.specs.SearchReports.{IsReportFront, IsSearchReport}
use Rattle.ht_texts.specs.ReportReading.{ReportReading, before_report, in_report, after_report, ReportReadsTo}
use Rattle.ht_texts.specs.ReportStands.{sums_read}
use Rattle.ht_proofs.specs.Detections.{AreFirstDetections, place_at}
use Rattle.ht_valid.specs.ValidFiles.{AgreesWithTests, IsOwn}
use Rattle.ht_valid.specs.FirstTrouble.{ContradictsTests}
use Rattle.ht_valid.specs.declared.trouble.Trouble.TheVariants.{Report}
use Rattle.ht_judge.specs.declared.judge_error.JudgeError.{JudgeError}
use Rattle.ht_judge.specs.declared.judge_error.JudgeError.TheVariants.{Denied, NoMemory}

-- What a judge of reports keeps.
pub record ReportJudgeView : Type 0 where
  pub circuit : Netlist
  pub representatives : List ℕ
  -- the first detection of each representative
  pub detections : List (Option Place)
  -- how many lines were read, of how many classes they say each verdict, and what they say: the budget, and what is
  -- said of the faults so far
  pub lines_read : ℕ
  pub sums : Sums
  pub budget : ℕ
  pub saids : List Said
  pub live : Bool

-- what is kept of a report that is read this far
abbrev pub KeepsSaid : ReportReading → ℕ → List Said → Type 0
KeepsSaid before_report budget saids = saids ≡ []
KeepsSaid (in_report said_budget said) budget saids = (budget ≡ said_budget) × (saids ≡ said)
KeepsSaid (after_report said_budget said) budget saids = (budget ≡ said_budget) × (saids ≡ said)

-- what a line says of the faults: of one, or of none
abbrev pub saids_in : Item → List Said
saids_in (Head budget) = []
saids_in (Verdict fault said) = said ∷ []
saids_in (Member fault) = Undetected ∷ []
saids_in Total = []

-- the budget after a line, which the head alone has
abbrev pub budget_with : Item → ℕ → ℕ
budget_with (Head budget) before = budget
budget_with (Verdict fault said) before = before
budget_with (Member fault) before = before
budget_with Total before = before

-- what is said agrees with the first detection, or with none
abbrev pub AgreesWithPlace : Option Place → Said → Type 0
AgreesWithPlace (Some place) (Detected said) = place ≡ said
AgreesWithPlace (Some place) said = ⊥
AgreesWithPlace None (Detected said) = ⊥
AgreesWithPlace None said = Unit {0}

-- what a line says agrees with the first detections
abbrev pub AgreesWithPlaces : List (Option Place) → Item → Type 0
AgreesWithPlaces places (Verdict fault said) = AgreesWithPlace (place_at places fault) said
AgreesWithPlaces places item = Unit {0}

-- The judge is live and stands for these lines: they begin a report, and what they say agrees with the vectors.
pub record JudgesReport (v : ReportJudgeView) (start : List Tern) (list : List (List Bool))
    (lines : List (List ℕ)) : Type 0 where
  pub live : IsTrue v.live
  pub first : AreFirstDetections v.circuit v.representatives start list v.detections
  pub at : ReportReading
  pub read : ReportReadsTo v.circuit v.representatives lines at
  pub kept : KeepsSaid at v.budget v.saids
  pub lines_read : v.lines_read ≡ length lines
  pub sums : v.sums ≡ sums_read v.representatives at
  pub agree : (i : ℕ) → i < length v.saids → is_representative v.representatives i ≡ true
      → AgreesWithTests v.circuit start list i (said_at v.saids i)

-- no report begins with these lines, or the last of them contradicts the vectors
abbrev pub IsRefusedReport : ReportJudgeView → List Tern → List (List Bool) → List (List ℕ) → Type 0
IsRefusedReport v start list lines = (¬ IsReportFront v.circuit v.representatives lines)
    ⊎ ContradictsTests v.circuit v.representatives start list lines

-- why the line was denied after these
abbrev pub ReportLineDeniedFor : ReportJudgeView → List Tern → List (List Bool) → List (List ℕ) → List ℕ → JudgeError
    → Type 0
ReportLineDeniedFor v start list before line (Denied (Report number)) =
    (number ≡ length before + 1) × IsRefusedReport v start list (before ++ line ∷ [])
ReportLineDeniedFor v start list before line (Denied other) = ⊥
ReportLineDeniedFor v start list before line NoMemory = Unit {0}

-- What a call with a line leaves, whatever lines the judge stood for.
pub record ReportJudged (old new : ReportJudgeView) (line : List ℕ) (result : Result (Unit {0}) JudgeError)
    : Type 0 where
  pub circuit : new.circuit ≡ old.circuit
  pub representatives : new.representatives ≡ old.representatives
  pub live : new.live ≡ is_ok result
  pub taken : (start : List Tern) (list : List (List Bool)) (before : List (List ℕ))
      → JudgesReport old start list before
      → IfOk result (λ u. JudgesReport new start list (before ++ line ∷ []))
  pub cause : (start : List Tern) (list : List (List Bool)) (before : List (List ℕ))
      → JudgesReport old start list before
      → IfErr result (ReportLineDeniedFor old start list before line)

-- The lines are a whole report with this budget, which says this and agrees with the vectors.
pub record IsTrueReport (c : Netlist) (representatives : List ℕ) (start : List Tern) (list : List (List Bool))
    (lines : List (List ℕ))
    (budget : ℕ) (saids : List Said) : Type 0 where
  pub report : IsSearchReport c representatives lines budget saids
  pub agrees : (i : ℕ) → IsOwn c representatives i → AgreesWithTests c start list i (said_at saids i)

-- the report ended too early: the line after its last is missing
abbrev pub ReportEndHasCause : ReportJudgeView → List (List ℕ) → JudgeError → Type 0
ReportEndHasCause v lines (Denied (Report number)) = (number ≡ length lines + 1)
    × ((budget : ℕ) (saids : List Said) → ¬ IsSearchReport v.circuit v.representatives lines budget saids)
ReportEndHasCause v lines (Denied other) = ⊥
ReportEndHasCause v lines NoMemory = Unit {0}
