-- What a finished engine's report and the texts of its steps say is true.
use Rattle.std.proofs.Common.{◌≡◌, ◌≤◌, ◌++◌, ◌+◌, ℕ, List, Some, true, ◌∙◌, length, refl, sym, ap, subst, length-append, arith}
use Rattle.ht_net.specs.Circuit.Netlist.{IsCircuit, Netlist}
use Rattle.ht_faults.specs.Sites.{faults_of}
use Rattle.ht_faults.specs.Classes.{AreClasses}
use Rattle.ht_ports.specs.LineRule.{max_text_bytes}
use Rattle.ht_texts.specs.declared.said.Said.{Said}
use Rattle.ht_texts.specs.Counts.{sums_of}
use Rattle.ht_texts.specs.Lines.{with_lf}
use Rattle.ht_texts.specs.Reports.{report_body, report_sums, report_text, total_line}
use Rattle.ht_texts.specs.SearchReports.{HasPlainNames, IsBudget}
use Rattle.ht_texts.proofs.ReportLaws.{report_splits}
use Rattle.ht_valid.specs.ValidFiles.{AreValid}
use Rattle.ht_valid.proofs.DecidedLaws.{are_decided}
use Rattle.ht_valid.proofs.TruthLaws.{true_verdicts}
use Rattle.ht_engine.specs.declared.step.Step.{Step}
use Rattle.ht_engine.specs.EngineStands.{EngineStandsFor, EngineView}
use Rattle.ht_engine.specs.Steps.{AreFinished}
use Rattle.ht_files.specs.Generated.{content_of, IsGenerated, IsTotalOf}
use Rattle.ht_files.specs.Saids.{AreSaid}
use Rattle.ht_files.specs.StepTexts.{proofs_of, tests_of}
use Rattle.ht_files.proofs.DecidedInLaws.{decided_under}
use Rattle.ht_files.proofs.ValidLaws.{are_valid, IsFinishedWork, justified, worked_on}

-- the body and the total line are the report
pub whole_report : (c : Netlist) (representatives : List ℕ) (budget : ℕ) (saids : List Said) (body total : List ℕ)
    → body ≡ report_body c representatives (Some budget) saids
    → total ≡ with_lf (total_line (report_sums representatives (Some budget) saids))
    → body ++ total ≡ report_text c representatives (Some budget) saids
whole_report c representatives budget saids body total body_is total_is =
    ap (λ (l : List ℕ). l ++ total) body_is
    ∙ ap (λ (l : List ℕ). report_body c representatives (Some budget) saids ++ l) total_is
    ∙ sym (report_splits c representatives (Some budget) saids)

-- the report of a finished engine and the texts of its steps are generated files, if each is short enough
pub are_generated : (e : EngineView) (steps : List Step) (saids : List Said) (report total : List ℕ)
    → IsFinishedWork e steps saids → HasPlainNames e.circuit → length (tests_of steps) ≤ max_text_bytes
    → length (proofs_of e.settings steps) ≤ max_text_bytes → length report ≤ max_text_bytes
    → report ≡ report_text e.circuit e.representatives (Some e.settings.budget) saids
    → total ≡ with_lf (total_line (report_sums e.representatives (Some e.settings.budget) saids))
    → IsGenerated e.circuit e.settings (tests_of steps) report (proofs_of e.settings steps) total
are_generated e steps saids report total work names short_tests short_proofs short_report report_is total_is =
    let content = content_of e.settings steps saids in
    let short = subst (λ (l : List ℕ). length l ≤ max_text_bytes) report_is short_report in
    let valid = subst
    (λ (l : List ℕ). AreValid e.circuit e.representatives e.settings.start (tests_of steps) l (proofs_of e.settings steps) content)
    (sym report_is)
    (are_valid e steps saids work names short_tests short_proofs short) in
    let is = justified e steps saids work in
    record {
      representatives = e.representatives;
      steps = steps;
      saids = saids;
      classes = work.classes;
      valid = valid;
      verdicts = true_verdicts e.circuit e.representatives content work.circuit work.classes work.stands.latches is;
      worked_on = worked_on e steps saids work;
      decided = λ i own chosen. are_decided e.circuit e.representatives content work.circuit work.stands.latches is i own
          (worked_on e steps saids work i own chosen);
      invariant = e.named_invariant;
      found = work.stands.found;
      decided_in = decided_under e steps saids work;
      steps_are = work.stands.are;
      finished = work.finished;
      tests_are = refl;
      report_is = report_is;
      proofs_are = refl;
      total_is = total_is;
    }

-- What the parts of a report are, and what holds of steps: so the report and the texts of the steps are generated.
abbrev Generates : EngineView → List Said → List ℕ → List ℕ → List Step → Netlist → List ℕ → ℕ → Type 0
Generates e saids body total steps c representatives budget = IsCircuit c → AreClasses c representatives
    → AreSaid e (length (faults_of c)) saids → body ≡ report_body c representatives (Some budget) saids
    → total ≡ with_lf (total_line (report_sums representatives (Some budget) saids))
    → AreFinished c representatives e.settings steps → HasPlainNames c
    → IsGenerated c e.settings (tests_of steps) (body ++ total) (proofs_of e.settings steps) total

module _ (e : EngineView) (saids : List Said) (body total : List ℕ) (steps : List Step)
    (budget_is : IsBudget e.settings.budget) (short : length body + length total ≤ max_text_bytes)
    (stands : EngineStandsFor e steps)
    (short_tests : length (tests_of steps) ≤ max_text_bytes)
    (short_proofs : length (proofs_of e.settings steps) ≤ max_text_bytes) where
  by_engine : Generates e saids body total steps e.circuit e.representatives e.settings.budget
  by_engine circuit classes said body_is total_is finished names =
      let long = length-append body total in
      are_generated e steps saids (body ++ total) total
      (record {
        circuit = circuit;
        classes = classes;
        budget = budget_is;
        stands = stands;
        finished = finished;
        said = said;
      })
      names short_tests short_proofs (omega (arith, long, short))
      (whole_report e.circuit e.representatives e.settings.budget saids body total body_is total_is) total_is

  -- the body with the total line and the texts of finished steps are generated, by the circuit and the classes
  pub report_is_generated : (c : Netlist) (representatives : List ℕ) (budget : ℕ) → e.circuit ≡ c
      → e.representatives ≡ representatives → budget ≡ e.settings.budget
      → Generates e saids body total steps c representatives budget
  report_is_generated c representatives budget circuit_is representatives_is same_budget =
      subst (λ (x : Netlist). Generates e saids body total steps x representatives budget) circuit_is
      (subst (λ (x : List ℕ). Generates e saids body total steps e.circuit x budget) representatives_is
      (subst (λ (x : ℕ). Generates e saids body total steps e.circuit e.representatives x) (sym same_budget)
      by_engine))

-- ---- the total line alone

-- What an engine says of each fault, and that it is finished: so the total line is that of its steps.
abbrev Totals : EngineView → List Said → List ℕ → List Step → Netlist → List ℕ → Type 0
Totals e saids total steps c representatives = AreClasses c representatives
    → AreSaid e (length (faults_of c)) saids → total ≡ with_lf (total_line (sums_of representatives saids true))
    → AreFinished c representatives e.settings steps → IsTotalOf c e.settings total

-- the total line of what an engine says of each fault is that of its finished steps
pub total_is_of : (e : EngineView) (saids : List Said) (total : List ℕ) (steps : List Step) → EngineStandsFor e steps
    → (c : Netlist) (representatives : List ℕ) → e.circuit ≡ c → e.representatives ≡ representatives
    → Totals e saids total steps c representatives
total_is_of e saids total steps stands c representatives circuit_is representatives_is =
    let by_engine : Totals e saids total steps e.circuit e.representatives =
    λ classes said total_is finished. record {
      representatives = e.representatives;
      steps = steps;
      saids = saids;
      classes = classes;
      steps_are = stands.are;
      finished = finished;
      said = λ i own. (said.says i own.listed own).by_steps steps stands;
      total_is = total_is;
    } in
    subst (λ (x : Netlist). Totals e saids total steps x representatives) circuit_is
    (subst (λ (x : List ℕ). Totals e saids total steps e.circuit x) representatives_is by_engine)
