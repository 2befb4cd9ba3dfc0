-- A report of a search, line by line: how far it is read, and what each line says.
use Rattle.std.specs.Prelude.{◌≡◌, ℕ, List, [], ◌∷◌, ◌++◌, true, length, if◌then◌else◌, Option, Some, None}
use Rattle.ht_net.specs.Circuit.Netlist.{Netlist}
use Rattle.ht_faults.specs.Sites.{faults_of}
use Rattle.ht_faults.specs.Classes.{is_representative}
use Rattle.ht_texts.specs.declared.item.Item.{Item}
use Rattle.ht_texts.specs.declared.item.Item.TheVariants.{Head, Verdict, Member, Total}
use Rattle.ht_texts.specs.declared.said.Said.{Said}
use Rattle.ht_texts.specs.declared.said.Said.TheVariants.{Undetected}
use Rattle.ht_texts.specs.Verdicts.{said_at}
use Rattle.ht_texts.specs.Reports.{first_lines, report_lines}
use Rattle.ht_texts.specs.SearchReports.{IsSearchOf}

-- how far a report is read: no line, the head and the lines of some faults, all lines
pub data ReportReading : Type 0 where
  before_report : ReportReading
  in_report : ℕ → List Said → ReportReading
  after_report : ℕ → List Said → ReportReading

-- what is said of the faults so far
abbrev pub saids_read : ReportReading → List Said
saids_read before_report = []
saids_read (in_report budget saids) = saids
saids_read (after_report budget saids) = saids

-- the lines that are read
abbrev pub report_lines_read : Netlist → List ℕ → ReportReading → List (List ℕ)
report_lines_read c representatives before_report = []
report_lines_read c representatives (in_report budget saids) =
    first_lines c representatives (Some budget) saids (length saids)
report_lines_read c representatives (after_report budget saids) = report_lines c representatives (Some budget) saids

-- a search can say this
abbrev pub IsReportReading : Netlist → List ℕ → ReportReading → Type 0
IsReportReading c representatives before_report = Unit {0}
IsReportReading c representatives (in_report budget saids) =
    IsSearchOf c representatives (length saids) budget saids
IsReportReading c representatives (after_report budget saids) =
    IsSearchOf c representatives (length (faults_of c)) budget saids

-- The lines begin a report, and are read this far.
pub record ReportReadsTo (c : Netlist) (representatives : List ℕ) (lines : List (List ℕ)) (at : ReportReading)
    : Type 0 where
  pub readable : IsReportReading c representatives at
  pub lines_are : lines ≡ report_lines_read c representatives at

-- the same budget, and the same said of each representative
pub record SameSearch (representatives : List ℕ) (budget budget' : ℕ) (saids saids' : List Said) : Type 0 where
  pub budgets : budget ≡ budget'
  pub counts : length saids ≡ length saids'
  pub verdicts : (i : ℕ) → is_representative representatives i ≡ true → said_at saids i ≡ said_at saids' i

-- two reports are read equally far, and say the same
abbrev pub SaySame : List ℕ → ReportReading → ReportReading → Type 0
SaySame representatives before_report before_report = Unit {0}
SaySame representatives (in_report budget saids) (in_report budget' saids') =
    SameSearch representatives budget budget' saids saids'
SaySame representatives (after_report budget saids) (after_report budget' saids') =
    SameSearch representatives budget budget' saids saids'
SaySame representatives _ _ = ⊥

-- ---- what a line says

-- the line of fault i, of which this is said
abbrev pub fault_item : List ℕ → ℕ → Said → Item
fault_item representatives i said = if is_representative representatives i then Verdict i said else Member i

-- what the last line says
abbrev pub last_item : List ℕ → ReportReading → Option Item
last_item representatives before_report = None
last_item representatives (in_report budget []) = Some (Head budget)
last_item representatives (in_report budget (said ∷ saids)) =
    Some (fault_item representatives (length saids) (said_at (said ∷ saids) (length saids)))
last_item representatives (after_report budget saids) = Some Total

-- how far a report is read after one line more, which says this; an item that has no place there changes nothing
abbrev pub read_on : ReportReading → Item → ReportReading
read_on before_report (Head budget) = in_report budget []
read_on (in_report budget saids) (Verdict i said) = in_report budget (saids ++ said ∷ [])
read_on (in_report budget saids) (Member i) = in_report budget (saids ++ Undetected ∷ [])
read_on (in_report budget saids) Total = after_report budget saids
read_on at item = at
