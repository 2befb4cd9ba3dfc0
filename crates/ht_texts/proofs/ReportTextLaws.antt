-- A text is the report of one search, or malformed at one line.
use Rattle.std.proofs.Common.{◌≡◌, ◌⊎◌, inl, inr, ℕ, ◌+◌, List, [], ◌++◌, length, take, drop, append_assoc, refl, sym, ap, ◌∙◌, subst, arith}
use Rattle.std.proofs.lemmas.Bool.{cases_eq}
use Rattle.std.proofs.lemmas.List.{take-append-drop}
use Rattle.ht_net.specs.Circuit.Netlist.{Netlist}
use Rattle.ht_faults.specs.Sites.{faults_of}
use Rattle.ht_ports.specs.LineRule.{lines_of}
use Rattle.ht_texts.specs.declared.said.Said.{Said}
use Rattle.ht_texts.specs.Tests.{IsTooLong}
use Rattle.ht_texts.specs.SearchReports.{IsSearchReport, IsReportFront, IsReportText, IsNoReportLine, EndsTooEarly, IsMalformedReport}
use Rattle.ht_texts.specs.ReportReading.{before_report, after_report, ReportReadsTo}
use Rattle.ht_texts.proofs.ReaderLaws.{whole_read, not_whole}
use Rattle.ht_texts.proofs.ReportChoiceLaws.{front_or_not}
use Rattle.ht_texts.proofs.ReportFrontLaws.{reading_is_front, front_is_reading}
use Rattle.ht_texts.proofs.WrongLineLaws.{RightOrFirst, first_of_both, short_or_long, short_is_right, all_is_right, begun_or_first}

-- what begins a report begins with lines that do
pub front_of_front : (c : Netlist) (representatives : List ℕ) (lines : List (List ℕ)) (n : ℕ)
    → IsReportFront c representatives lines → IsReportFront c representatives (take n lines)
front_of_front c representatives lines n front = record {
  budget = front.budget;
  saids = front.saids;
  more = drop n lines ++ front.more;
  report = subst (λ l. IsSearchReport c representatives l front.budget front.saids)
      (sym (sym (append_assoc (take n lines) (drop n lines) front.more)
      ∙ ap (λ l. l ++ front.more) (take-append-drop n lines))) front.report;
}

report_is_front : (c : Netlist) (representatives : List ℕ) (lines : List (List ℕ)) (budget : ℕ) (saids : List Said)
    → IsSearchReport c representatives lines budget saids → IsReportFront c representatives lines
report_is_front c representatives lines budget saids report =
    reading_is_front c representatives lines (after_report budget saids)
    (record { readable = report.search; lines_are = report.lines_are })

-- the text of a report is malformed at no line
pub report_is_not_malformed : (c : Netlist) (representatives : List ℕ) (text : List ℕ) (budget : ℕ)
    (saids : List Said) (n : ℕ) → IsReportText c representatives text budget saids
    → ¬ IsMalformedReport c representatives text n
report_is_not_malformed c representatives text budget saids n is malformed = elim malformed.wrong [
  | inl wrong ↦ all_is_right (IsReportFront c representatives) (front_of_front c representatives) text
      (report_is_front c representatives (lines_of text) budget saids is.report) n wrong
  | inr (inl early) ↦ early.none budget saids is.report
  | inr (inr long) ↦ omega (arith, is.short, long.long)
]

-- ---- never neither

front_or_first : (c : Netlist) (representatives : List ℕ) (text : List ℕ)
    → length representatives ≡ length (faults_of c)
    → RightOrFirst (IsReportFront c representatives (lines_of text)) (IsNoReportLine c representatives text)
front_or_first c representatives text listed =
    begun_or_first (IsReportFront c representatives) (front_of_front c representatives)
    (reading_is_front c representatives [] before_report (record { readable = tt; lines_are = refl }))
    (front_or_not c representatives listed) text

-- the lines are a report
AreReport : Netlist → List ℕ → List (List ℕ) → Type 0
AreReport c representatives lines =
    (budget : ℕ) × (saids : List Said) × IsSearchReport c representatives lines budget saids

-- or the text ends too early
whole_or_early : (c : Netlist) (representatives : List ℕ) (text : List ℕ)
    → length representatives ≡ length (faults_of c)
    → RightOrFirst (AreReport c representatives (lines_of text)) (EndsTooEarly c representatives text)
unfolding AreReport
whole_or_early c representatives text listed =
    let lines = lines_of text in
    let early : ((budget : ℕ) (saids : List Said) → ¬ IsSearchReport c representatives lines budget saids)
    → RightOrFirst (AreReport c representatives lines) (EndsTooEarly c representatives text) =
    λ none. inr (
      length lines + 1,
      record {
        wrong = record { line = refl; none = none };
        first = λ m below other. omega (arith, below, other.line);
      },
    ) in
    elim (cases_eq (length lines) (length (faults_of c) + 2)) [
      | inr differs ↦ early (λ budget saids. not_whole c representatives lines budget saids differs)
      | inl all ↦ elim (front_or_first c representatives text listed) [
        | inr bad ↦ early (λ budget saids report.
            all_is_right (IsReportFront c representatives) (front_of_front c representatives) text
            (report_is_front c representatives lines budget saids report) bad.0 bad.1.wrong)
        | inl front ↦
            let read = front_is_reading c representatives lines front in
            let whole = whole_read c representatives lines read.0 read.1 all in
            let total = subst (ReportReadsTo c representatives lines) whole.2 read.1 in
            inl (whole.0, whole.1, record { search = total.readable; lines_are = total.lines_are })
      ]
    ]

-- each text is that of a report of a search, or malformed at some line
pub report_or_malformed : (c : Netlist) (representatives : List ℕ) (text : List ℕ)
    → length representatives ≡ length (faults_of c)
    → ((budget : ℕ) × (saids : List Said) × IsReportText c representatives text budget saids)
    ⊎ ((n : ℕ) × IsMalformedReport c representatives text n)
unfolding AreReport
report_or_malformed c representatives text listed =
    let IsEarlyOrLong : ℕ → Type 0 = λ n. EndsTooEarly c representatives text n ⊎ IsTooLong text n in
    elim (first_of_both (IsNoReportLine c representatives text) IsEarlyOrLong
    (all_is_right (IsReportFront c representatives) (front_of_front c representatives) text)
    (λ right n wrong. elim wrong
    [ inl early ↦ early.none right.0.0 right.0.1 right.0.2 | inr long ↦ short_is_right text right.1 n long ])
    (front_or_first c representatives text listed)
    (first_of_both (EndsTooEarly c representatives text) (IsTooLong text)
    (λ whole n early. early.none whole.0 whole.1 whole.2) (short_is_right text)
    (whole_or_early c representatives text listed) (short_or_long text))) [
      | inl right ↦ inl (right.1.0.0, right.1.0.1, record { report = right.1.0.2; short = right.1.1 })
      | inr first ↦ inr first
    ]
