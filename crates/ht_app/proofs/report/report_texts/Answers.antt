use Rattle.std.proofs.Common.{◌≡◌, ◌≤◌, ◌++◌, ℕ, List, Some, length, sym, subst, ap, arith}
use Rattle.std.proofs.lemmas.List.{length-append}
use Rattle.ht_app.proofs.Common.{Said, max_text_bytes, with_lf}
use Rattle.ht_texts.specs.Reports.{report_sums, report_text, total_line}
use Rattle.ht_texts.specs.SearchReports.{IsReportText}
use Rattle.ht_texts.specs.Verdicts.{AreSayable}
use Rattle.ht_texts.proofs.ReportWrittenLaws.{written_is_report}
use Rattle.ht_app.proofs.report.report_texts.Goals as goal

pub report_of-requires-clause-saids : goal.report_of-requires-clause-saids
report_of-requires-clause-saids c =
    subst (λ (l : List Said). AreSayable c.args.graded.now.circuit c.args.graded.now.listed.classes l)
    (sym c.deref.ensures.value) c.requires.search.saids_are

pub returns : goal.returns
returns c =
    let circuit = c.args.graded.now.circuit in
    let classes = c.args.graded.now.listed.classes in
    let budget = c.args.claims.now.budget in
    let saids = c.args.claims.now.saids.items in
    let body = c.in_ok-made.made.body.items in
    let total = c.in_ok-made.made.total.items in
    let same : body ++ total ≡ report_text circuit classes (Some budget) saids =
    subst (λ (l : List Said). body ++ total ≡ report_text circuit classes (Some budget) l) c.deref.ensures.value
    c.in_ok-made.ensures.report in
    let total_is : total ≡ with_lf (total_line (report_sums classes (Some budget) saids)) =
    subst (λ (l : List Said). total ≡ with_lf (total_line (report_sums classes (Some budget) l))) c.deref.ensures.value
    c.in_ok-made.ensures.total in
    let short : length (report_text circuit classes (Some budget) saids) ≤ max_text_bytes = omega (
      arith,
      ap length same,
      length-append body total,
      c.new-size.ensures,
      c.in_ok-add.ensures.counted,
      c.in_ok-add-2.ensures.counted,
      c.in_ok-add-2.ensures.short,
      ap (λ (l : List ℕ). length l) c.deref-2.ensures.value,
      ap (λ (l : List ℕ). length l) c.deref-3.ensures.value,
    ) in
    record {
      report_is = same;
      reported = subst (λ (l : List ℕ). IsReportText circuit classes l budget saids) (sym same)
          (written_is_report circuit classes budget saids c.requires.graded.circuit c.requires.graded.classes
          c.requires.plain c.requires.search short);
      total_is = total_is;
    }
