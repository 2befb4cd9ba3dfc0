-- A reader of reports after a call.
use Rattle.std.proofs.Common.{◌≡◌, ◌≢◌, ℕ, ◌+◌, ◌<◌, ◌^◌, false, List, [], ◌∷◌, ◌++◌, Ok, Err, length, length-append, refl, sym, ap, ◌∙◌, subst, arith}
use Rattle.std.specs.Prelude.{IsTrue}
use Rattle.ht_net.specs.Circuit.Netlist.{Netlist, IsCircuit}
use Rattle.ht_faults.specs.Sites.{faults_of, sites_of}
use Rattle.ht_faults.proofs.ListLaws.{faults_count}
use Rattle.ht_faults.proofs.SiteLaws.{sites_few}
use Rattle.ht_texts.specs.declared.item.Item.{Item}
use Rattle.ht_texts.specs.declared.report_reader.ReportReader.TheInside.{Inside}
use Rattle.ht_texts.specs.declared.said.Said.{Said}
use Rattle.ht_texts.specs.declared.total.Sums.{Sums}
use Rattle.ht_texts.specs.Counts.{CountsItem}
use Rattle.ht_texts.specs.ReportLines.{SaysItem}
use Rattle.ht_texts.specs.ReportReaderOf.{report_view, ReadsReport}
use Rattle.ht_texts.specs.ReportReading.{ReportReading, before_report, in_report, after_report, ReportReadsTo}
use Rattle.ht_texts.specs.ReportStands.{ReportCalled}
use Rattle.ht_texts.specs.SearchReports.{IsSearchReport}
use Rattle.ht_texts.proofs.ReadingLaws.{length-in_report, item_read, next_line_says}
use Rattle.ht_texts.proofs.ReportFrontLaws.{length-report_lines, front_is_reading}

-- 32 bits count the lines of a report
pub lines_few : (c : Netlist) → IsCircuit c → length (faults_of c) + 2 < 2 ^ 32
lines_few c is = omega (arith, faults_count (sites_of c), sites_few c is)

-- ---- what a call leaves

-- a live reader takes a line that says an item, if it counts the line and what the item says
pub line_taken : (a : Inside) (line : List ℕ) (item : Item) (sums : Sums) → ReadsReport a → IsTrue a.live
    → SaysItem a.circuit.now a.classes.now a.lines_read a.sums line item → CountsItem item a.sums sums
    → ReportCalled (report_view a) (report_view (record a { lines_read = a.lines_read + 1; sums = sums })) line
    (Ok item)
line_taken a line item sums reads live says counts = record {
  circuit = refl;
  representatives = refl;
  live = live;
  taken = λ lines at stands.
      let next = item_read a.circuit.now a.classes.now lines at line item a.sums sums reads.classes.every stands.read
      stands.sums (subst (λ n. SaysItem a.circuit.now a.classes.now n a.sums line item) stands.lines_read says)
      counts in record {
        stands = record {
          live = live;
          read = next.read;
          lines_read = omega (arith, stands.lines_read, length-append lines (line ∷ []));
          sums = next.sums_are;
        };
        says = next.says;
      };
  refused = λ lines at stands. tt;
}

-- a reader that is no longer live after a line that says no item has refused that line, by its number
pub line_refused : (a : Inside) (line : List ℕ) → ReadsReport a
    → ((item : Item) → ¬ SaysItem a.circuit.now a.classes.now a.lines_read a.sums line item)
    → ReportCalled (report_view a) (report_view (record a { live = false })) line
    (Err (record { line = a.lines_read + 1 }))
line_refused a line reads none = record {
  circuit = refl;
  representatives = refl;
  live = refl;
  taken = λ lines at stands. tt;
  refused = λ lines at stands. record {
    number = ap (λ n. n + 1) stands.lines_read;
    none = λ front.
        let next = front_is_reading a.circuit.now a.classes.now (lines ++ line ∷ []) front in
        let found = next_line_says a.circuit.now a.classes.now lines at next.0 line a.sums reads.classes.every
        stands.read stands.sums next.1 in
        none found.0
        (subst (λ n. SaysItem a.circuit.now a.classes.now n a.sums line found.0) (sym stands.lines_read) found.1);
  };
}

-- ---- the end

-- a reading of two lines more than the circuit has faults is at the end of the report
pub whole_read : (c : Netlist) (representatives : List ℕ) (lines : List (List ℕ)) (at : ReportReading)
    → ReportReadsTo c representatives lines at → length lines ≡ length (faults_of c) + 2
    → (budget : ℕ) × (saids : List Said) × (at ≡ after_report budget saids)
whole_read c representatives lines before_report read all = absurd (omega (arith, all, ap length read.lines_are))
whole_read c representatives lines (in_report budget saids) read all = absurd (omega (
  arith,
  all,
  length-in_report c representatives lines budget saids read,
  read.readable.listed,
))
whole_read c representatives lines (after_report budget saids) read all = (budget, saids, refl)

-- lines are no report of a search unless they are two more than the circuit has faults
pub not_whole : (c : Netlist) (representatives : List ℕ) (lines : List (List ℕ)) (budget : ℕ) (saids : List Said)
    → length lines ≢ length (faults_of c) + 2 → ¬ IsSearchReport c representatives lines budget saids
not_whole c representatives lines budget saids differs report =
    differs (ap length report.lines_are ∙ length-report_lines c representatives budget saids)
