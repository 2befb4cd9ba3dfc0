-- A reader of the report of a search: what it keeps, and what a call leaves. It keeps counts, and no line.
use Rattle.std.specs.Prelude.{◌≡◌, ℕ, ◌+◌, List, [], ◌∷◌, ◌++◌, Bool, true, length, IsTrue, Some, Result, Ok, Err, IfOk, IfErr, is_ok}
use Rattle.ht_net.specs.Circuit.Netlist.{Netlist}
use Rattle.ht_texts.specs.declared.item.Item.{Item}
use Rattle.ht_texts.specs.declared.malformed_line.MalformedLine.{MalformedLine}
use Rattle.ht_texts.specs.declared.said.Said.{Said}
use Rattle.ht_texts.specs.declared.total.Sums.{Sums}
use Rattle.ht_texts.specs.Counts.{sums_among, representatives_below}
use Rattle.ht_texts.specs.SearchReports.{IsSearchReport, IsReportFront}
use Rattle.ht_texts.specs.ReportReading.{ReportReading, after_report, saids_read, ReportReadsTo, last_item, read_on}

-- what a reader of a report keeps
pub record ReportView : Type 0 where
  pub circuit : Netlist
  pub representatives : List ℕ
  -- how many lines were read
  pub lines_read : ℕ
  -- of how many classes each verdict was said
  pub sums : Sums
  pub live : Bool

-- the sums of what is said so far
abbrev pub sums_read : List ℕ → ReportReading → Sums
sums_read representatives at =
    sums_among representatives (saids_read at) true (representatives_below representatives (length (saids_read at)))

-- The reader is live and stands for these lines, which are read this far.
pub record ReportStands (r : ReportView) (lines : List (List ℕ)) (at : ReportReading) : Type 0 where
  pub live : IsTrue r.live
  pub read : ReportReadsTo r.circuit r.representatives lines at
  pub lines_read : r.lines_read ≡ length lines
  pub sums : r.sums ≡ sums_read r.representatives at

-- a reader that has read no line
abbrev pub new_report : Netlist → List ℕ → ReportView
new_report c representatives = record {
  circuit = c;
  representatives = representatives;
  lines_read = 0;
  sums = sums_among representatives [] true [];
  live = true;
}

-- The line was taken: the reader stands for one line more, and answers what this line says.
pub record TakesReportLine (lines : List (List ℕ)) (at : ReportReading) (line : List ℕ) (new : ReportView) (item : Item)
    : Type 0 where
  pub stands : ReportStands new (lines ++ line ∷ []) (read_on at item)
  pub says : last_item new.representatives (read_on at item) ≡ Some item

-- The line was refused: no report begins with the lines before and this one.
pub record RefusesReportLine (old : ReportView) (lines : List (List ℕ)) (line : List ℕ) (error : MalformedLine)
    : Type 0 where
  pub number : error.line ≡ length lines + 1
  pub none : ¬ IsReportFront old.circuit old.representatives (lines ++ line ∷ [])

-- What a call with a line leaves, whatever lines the reader stood for.
pub record ReportCalled (old new : ReportView) (line : List ℕ) (result : Result Item MalformedLine) : Type 0 where
  pub circuit : new.circuit ≡ old.circuit
  pub representatives : new.representatives ≡ old.representatives
  pub live : new.live ≡ is_ok result
  pub taken : (lines : List (List ℕ)) (at : ReportReading) → ReportStands old lines at
      → IfOk result (TakesReportLine lines at line new)
  pub refused : (lines : List (List ℕ)) (at : ReportReading) → ReportStands old lines at
      → IfErr result (RefusesReportLine old lines line)

-- where a report ends: the lines are a whole one, or the line after the last is missing
abbrev pub EndsReport : ReportView → List (List ℕ) → ReportReading → Result (Unit {0}) MalformedLine → Type 0
EndsReport r lines at (Ok _) = (budget : ℕ) × (saids : List Said) × (at ≡ after_report budget saids)
EndsReport r lines at (Err error) = (error.line ≡ length lines + 1)
    × ((budget : ℕ) (saids : List Said) → ¬ IsSearchReport r.circuit r.representatives lines budget saids)
