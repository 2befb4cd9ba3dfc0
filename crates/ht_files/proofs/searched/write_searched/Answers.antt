use Rattle.std.proofs.Common.{◌≡◌, ◌≤◌, ◌+◌, ℕ, List, Some, true, length, sym, subst, ap, ◌∙◌, arith}
use Rattle.ht_net.specs.declared.fault.Fault.{Fault}
use Rattle.ht_faults.specs.Sites.{faults_of}
use Rattle.ht_ports.specs.LineRule.{max_text_bytes}
use Rattle.ht_texts.specs.declared.said.Said.{Said}
use Rattle.ht_texts.specs.declared.total.Sums.{Sums}
use Rattle.ht_texts.specs.Counts.{sums_of}
use Rattle.ht_texts.specs.Lines.{with_lf}
use Rattle.ht_texts.specs.Reports.{report_body, report_sums, total_line}
use Rattle.ht_texts.specs.SearchReports.{IsBudget}
use Rattle.ht_texts.specs.Verdicts.{AreSayable}
use Rattle.ht_files.specs.Saids.{AreSaidIn}
use Rattle.ht_files.proofs.SearchedLaws.{report_is_searched}
use Rattle.ht_files.proofs.SayableLaws.{are_sayable_in}
use Rattle.ht_files.proofs.searched.write_searched.Goals as goal

pub write_body-requires-clause-saids : goal.write_body-requires-clause-saids
write_body-requires-clause-saids c =
    let saids = c.in_ok-saids.saids.items in
    let circuit = c.args.circuit.now in
    let said : AreSaidIn c.args.verdicts.now (length (faults_of circuit)) saids =
    subst (λ (l : List Fault). AreSaidIn c.args.verdicts.now (length l) saids) c.requires.faults
    c.in_ok-saids.ensures in
    subst (λ (l : List Said). AreSayable circuit c.args.classes.now l) (sym c.deref.ensures.value)
    (are_sayable_in c.args.verdicts.now saids circuit c.args.classes.now c.requires.circuit
    c.requires.representatives said)

pub returns : goal.returns
returns c = λ settings steps same_budget told names short_tests short_proofs.
    let v = c.args.verdicts.now in
    let saids = c.in_ok-saids.saids.items in
    let circuit = c.args.circuit.now in
    let classes = c.args.classes.now in
    let budget = c.args.budget in
    let body = c.in_ok-body.body.items in
    let total = c.in_ok-total.total.items in
    let said : AreSaidIn v (length (faults_of circuit)) saids =
    subst (λ (l : List Fault). AreSaidIn v (length l) saids) c.requires.faults c.in_ok-saids.ensures in
    let body_is : body ≡ report_body circuit classes (Some budget) saids =
    c.in_ok-body.ensures ∙ ap (λ (l : List Said). report_body circuit classes (Some budget) l) c.deref.ensures.value in
    let total_is : total ≡ with_lf (total_line (report_sums classes (Some budget) saids)) =
    c.in_ok-total.ensures
    ∙ ap (λ (sums : Sums). with_lf (total_line sums))
    (c.of.ensures ∙ ap (λ (l : List Said). sums_of classes l true) c.deref-2.ensures.value) in
    let body_length = ap (λ (l : List ℕ). length l) c.deref-3.ensures.value in
    let total_length = ap (λ (l : List ℕ). length l) c.deref-4.ensures.value in
    let short : length body + length total ≤ max_text_bytes =
    omega (arith, c.in_ok-check_size.ensures, body_length, total_length) in
    report_is_searched v saids body total settings steps (subst IsBudget (sym same_budget) c.requires.budget) short
    c.entries_decide.ensures.latches c.entries_decide.ensures.decide c.are_justified.ensures told short_tests
    short_proofs circuit classes budget c.requires.circuit c.requires.representatives (sym same_budget)
    c.nets.ensures.circuit c.requires.classes said body_is total_is names
