-- The files of a full search are valid, and what they say is true.
use Rattle.std.proofs.Common.{◌≡◌, ◌≢◌, ◌<◌, ◌≤◌, ◌+◌, ◌-◌, ◌++◌, ◌∙◌, ℕ, List, Bool, true, get_or, length, refl, sym, ap, subst, length-append, arith}
use Rattle.std.specs.Prelude.{IfSome, Option, Some, None}
use Rattle.std.specs.List.{All, Contains}
use Rattle.std.proofs.lemmas.List.Elements.{All-contains, All-weaker}
use Rattle.ht_net.specs.declared.place.Place.{Place}
use Rattle.ht_net.specs.Circuit.Netlist.{IsCircuit, Netlist}
use Rattle.ht_net.specs.Detect.Detection.{IsStart}
use Rattle.ht_faults.specs.Sites.{faults_of}
use Rattle.ht_faults.specs.Classes.{AreClasses, fault_at}
use Rattle.ht_ports.specs.LineRule.{max_text_bytes}
use Rattle.ht_proofs.specs.Detections.{place_at}
use Rattle.ht_tree.specs.declared.entry.Entry as recorded
use Rattle.ht_tree.specs.declared.entry.Entry.TheVariants as entries
use Rattle.ht_tree.specs.declared.kind.EntryKind.{EntryKind}
use Rattle.ht_tree.specs.declared.kind.EntryKind.TheVariants as kinds
use Rattle.ht_tree.specs.Record.Entries.{kind_of}
use Rattle.ht_tree.specs.Record.Rising.{Rises}
use Rattle.ht_texts.specs.declared.said.Said.{Said}
use Rattle.ht_texts.specs.declared.said.Said.TheVariants.{Aborted, Detected}
use Rattle.ht_texts.specs.Lines.{with_lf}
use Rattle.ht_texts.specs.Reports.{report_body, report_sums, report_text, total_line}
use Rattle.ht_texts.specs.SearchReports.{HasPlainNames, IsBudget, IsSearchOf}
use Rattle.ht_texts.specs.Verdicts.{said_at}
use Rattle.ht_texts.proofs.ReportWrittenLaws.{written_is_report}
use Rattle.ht_texts.proofs.WrittenLaws.{written_is_test_text}
use Rattle.ht_entries.specs.declared.format.Format.{Format}
use Rattle.ht_entries.specs.declared.format.Format.TheVariants.{Three}
use Rattle.ht_entries.specs.declared.numbered.Numbered.{Numbered}
use Rattle.ht_entries.specs.EntryTexts.{AreEntryTexts, FitsFormat, IsEntryText, has_form, numbers_of}
use Rattle.ht_entries.specs.EntryLines.{whole_part}
use Rattle.ht_entries.proofs.TextLaws.{written_is_proof_text}
use Rattle.ht_valid.specs.ValidFiles.{AreValid, Content, HasEntry, IsJustified, IsOwn, said_by_kind}
use Rattle.ht_valid.proofs.EntryTextLaws.{passing_text}
use Rattle.ht_valid.proofs.TruthLaws.{true_verdicts}
use Rattle.ht_verdicts.specs.Contents.{IsContentOf, IsKeptEntry, said_by_both, said_in}
use Rattle.ht_verdicts.specs.Kept.{entries_from, kept_entries}
use Rattle.ht_verdicts.specs.Standing.{AllDecide, Decides, VerdictsView, entry_at, said_by_entry}
use Rattle.ht_engine.specs.declared.settings.Search.{Search}
use Rattle.ht_engine.specs.declared.settings.Settings.{Settings}
use Rattle.ht_engine.specs.declared.step.Step.{Step}
use Rattle.ht_engine.specs.Steps.{entries_of, vectors_of_steps}
use Rattle.ht_files.specs.Generated.{content_of}
use Rattle.ht_files.specs.Saids.{AreSaidIn}
use Rattle.ht_files.specs.Searched.{IsDeciding, IsSearched, TellAll}
use Rattle.ht_files.specs.StepTexts.{format_of, proofs_of, tests_of}
use Rattle.ht_files.proofs.GeneratedLaws.{whole_report}
use Rattle.ht_files.proofs.KeptLaws.{all_are_kept, IsKeptFrom, kept_is_there, kept_rise}

-- format 3 has each form
each_form : (e : recorded.Entry) → has_form Three (whole_part e) ≡ true
each_form (entries.Untestable z tokens) = refl
each_form (entries.UntestableFrom state clauses z tokens) = refl
each_form (entries.UndetectableBySets rows) = refl
each_form (entries.UndetectableByCubes cubes steps) = refl
each_form (entries.Aborted told walk aim sweep) = refl

-- what is said by an entry that decides is never that the fault is aborted
not_by_kind : (kind : EntryKind) → kind ≢ kinds.Aborted → said_by_kind kind ≢ Aborted
not_by_kind kinds.Untestable other is = cc
not_by_kind kinds.Undetectable other is = cc
not_by_kind kinds.Aborted other is = absurd (other refl)

not_by_both : (place : Option Place) (entry : Option recorded.Entry)
    → ((made : recorded.Entry) → entry ≡ Some made → kind_of made ≢ kinds.Aborted)
    → said_by_both place entry ≢ Aborted
not_by_both (Some place) entry more is = cc
not_by_both None None more is = cc
not_by_both None (Some made) more is = not_by_kind (kind_of made) (more made refl) is

-- What verdicts keep, what their steps tell, and what is said of each fault.
pub record IsToldWork (v : VerdictsView) (settings : Settings) (steps : List Step) (saids : List Said) : Type 0 where
  pub circuit : IsCircuit v.circuit
  pub classes : AreClasses v.circuit v.representatives
  pub latches : IsStart v.circuit v.start
  pub budget : IsBudget settings.budget
  pub decide : AllDecide v
  pub justified : (content : Content) → IsContentOf v content → IsJustified v.circuit v.representatives content
  pub told : TellAll v settings steps
  pub said : AreSaidIn v (length (faults_of v.circuit)) saids

module _ (v : VerdictsView) (settings : Settings) (steps : List Step) (saids : List Said)
    (work : IsToldWork v settings steps saids) where
  abbrev content : Content
  content = content_of settings steps saids

  says : (i : ℕ) → IsOwn v.circuit v.representatives i → said_at saids i ≡ said_in v i
  says i own = (work.said.says i own.listed own).is

  -- ---- the entries

  is_kept : (e : Numbered) → IsKeptFrom 0 v.entries e → IsKeptEntry v e
  is_kept e is =
      let counts = is.number in
      let at : is.index ≡ e.number - 1 = omega (arith, counts) in
      record {
        counted = omega (arith, counts);
        kept = subst (λ (n : ℕ). get_or v.entries n None ≡ Some e.entry) at is.there;
      }

  all_kept : All (IsKeptEntry v) (entries_of steps)
  all_kept = subst (All (IsKeptEntry v)) (sym work.told.entries)
      (All-weaker (IsKeptFrom 0 v.entries) (IsKeptEntry v) is_kept (kept_entries v) (all_are_kept 0 v.entries))

  has_entry : (i : ℕ) (made : recorded.Entry) → entry_at v i ≡ Some made → HasEntry (entries_of steps) i
  has_entry i made is = record {
    entry = made;
    among =
        let same : 0 + i + 1 ≡ i + 1 = omega arith in
        subst (λ (l : List Numbered). Contains l (record { number = i + 1; entry = made })) (sym work.told.entries)
        (subst (λ (n : ℕ). Contains (kept_entries v) (record { number = n; entry = made })) same
        (kept_is_there 0 v.entries i made is));
  }

  is_content : IsContentOf v content
  is_content = record {
    start = sym work.told.start;
    graded = work.told.graded;
    says = says;
    kept = all_kept;
    each = λ i made none is. has_entry i made is;
  }

  decides : (e : Numbered) → IsKeptEntry v e → Decides v.circuit v.representatives v.start (e.number - 1) e.entry
  decides e kept = work.decide (e.number - 1) e.entry kept.kept

  has_text : (e : Numbered) → IsKeptEntry v e → IsEntryText e
  has_text e kept =
      let counted = kept.counted in
      let d = decides e kept in
      let same : e.number - 1 + 1 ≡ e.number = omega (arith, counted) in
      subst (λ (n : ℕ). IsEntryText (record { number = n; entry = e.entry })) same
      (passing_text v.circuit v.start (fault_at v.circuit (e.number - 1)) settings.budget (e.number - 1) e.entry
      work.circuit d.own.listed work.budget.1 d.writable (d.passes settings.budget))

  format_is : format_of settings.search ≡ Three
  format_is = ap format_of work.told.search

  have_texts : AreEntryTexts (format_of settings.search) (entries_of steps)
  have_texts = record {
    each = All-weaker (IsKeptEntry v) IsEntryText has_text (entries_of steps) all_kept;
    fits = All-weaker (IsKeptEntry v) (FitsFormat (format_of settings.search))
        (λ e kept. subst (λ (f : Format). has_form f (whole_part e.entry) ≡ true) (sym format_is) (each_form e.entry))
        (entries_of steps) all_kept;
    rises = subst (λ (l : List Numbered). Rises (numbers_of l)) (sym work.told.entries) (kept_rise 0 v.entries);
  }

  -- ---- the three together

  is_search : IsSearchOf v.circuit v.representatives (length (faults_of v.circuit)) settings.budget saids
  is_search = record {
    budget_is = work.budget;
    listed = omega arith;
    saids_are = record {
      each = work.said.each;
      sayable = λ i inside own. (work.said.says i inside (record { listed = inside; own = own })).sayable;
    };
  }

  justified : IsJustified v.circuit v.representatives content
  justified = work.justified content is_content

  latches : IsStart v.circuit settings.start
  latches = subst (IsStart v.circuit) work.told.start work.latches

  not_aborted : (i : ℕ) → IsOwn v.circuit v.representatives i → said_at saids i ≢ Aborted
  not_aborted i own is = not_by_both (place_at v.grader.places i) (entry_at v i)
      (λ made kept. (work.decide i made kept).more) (sym (says i own) ∙ is)

  are_valid : HasPlainNames v.circuit → length (tests_of steps) ≤ max_text_bytes
      → length (proofs_of settings steps) ≤ max_text_bytes
      → length (report_text v.circuit v.representatives (Some settings.budget) saids) ≤ max_text_bytes
      → AreValid v.circuit v.representatives settings.start (tests_of steps)
      (report_text v.circuit v.representatives (Some settings.budget) saids) (proofs_of settings steps) content
  are_valid names short_tests short_proofs short_report = record {
    stated = refl;
    vectors = written_is_test_text v.circuit (vectors_of_steps steps) work.told.wide short_tests;
    reported = written_is_report v.circuit v.representatives settings.budget saids work.circuit work.classes names
        is_search short_report;
    proved = written_is_proof_text (format_of settings.search) (entries_of steps) have_texts short_proofs;
    justified = justified;
  }

  -- the report and the texts of the steps are those of a full search, if each is short enough
  pub are_searched : (report total : List ℕ) → HasPlainNames v.circuit → length (tests_of steps) ≤ max_text_bytes
      → length (proofs_of settings steps) ≤ max_text_bytes → length report ≤ max_text_bytes
      → report ≡ report_text v.circuit v.representatives (Some settings.budget) saids
      → total ≡ with_lf (total_line (report_sums v.representatives (Some settings.budget) saids))
      → IsSearched v.circuit settings (tests_of steps) report (proofs_of settings steps) total
  are_searched report total names short_tests short_proofs short_report report_is total_is =
      let short = subst (λ (l : List ℕ). length l ≤ max_text_bytes) report_is short_report in
      record {
        representatives = v.representatives;
        steps = steps;
        saids = saids;
        classes = work.classes;
        valid = subst (λ (l : List ℕ). AreValid v.circuit v.representatives settings.start (tests_of steps) l
            (proofs_of settings steps) content) (sym report_is)
            (are_valid names short_tests short_proofs short);
        verdicts = true_verdicts v.circuit v.representatives content work.circuit work.classes latches justified;
        none_aborted = not_aborted;
        found = work.told.found;
        tests_are = refl;
        report_is = report_is;
        proofs_are = refl;
        total_is = total_is;
      }

-- What the parts of a report are: so the report and the texts of the steps are those of a full search.
abbrev Searches : VerdictsView → List Said → List ℕ → List ℕ → Settings → List Step → Netlist → List ℕ → ℕ → Type 0
Searches v saids body total settings steps c representatives budget = IsCircuit c → AreClasses c representatives
    → AreSaidIn v (length (faults_of c)) saids → body ≡ report_body c representatives (Some budget) saids
    → total ≡ with_lf (total_line (report_sums representatives (Some budget) saids)) → HasPlainNames c
    → IsSearched c settings (tests_of steps) (body ++ total) (proofs_of settings steps) total

module _ (v : VerdictsView) (saids : List Said) (body total : List ℕ) (settings : Settings) (steps : List Step)
    (budget_is : IsBudget settings.budget) (short : length body + length total ≤ max_text_bytes)
    (latches : IsStart v.circuit v.start) (decide : AllDecide v)
    (are_justified : (content : Content) → IsContentOf v content → IsJustified v.circuit v.representatives content)
    (told : TellAll v settings steps) (short_tests : length (tests_of steps) ≤ max_text_bytes)
    (short_proofs : length (proofs_of settings steps) ≤ max_text_bytes) where
  by_verdicts : Searches v saids body total settings steps v.circuit v.representatives settings.budget
  by_verdicts circuit classes said body_is total_is names =
      let long = length-append body total in
      are_searched v settings steps saids
      (record {
        circuit = circuit;
        classes = classes;
        latches = latches;
        budget = budget_is;
        decide = decide;
        justified = are_justified;
        told = told;
        said = said;
      })
      (body ++ total) total names short_tests short_proofs (omega (arith, long, short))
      (whole_report v.circuit v.representatives settings.budget saids body total body_is total_is) total_is

  -- the body with the total line and the texts of steps are those of a full search, by the circuit and the classes
  pub report_is_searched : (c : Netlist) (representatives : List ℕ) (budget : ℕ) → v.circuit ≡ c
      → v.representatives ≡ representatives → budget ≡ settings.budget
      → Searches v saids body total settings steps c representatives budget
  report_is_searched c representatives budget circuit_is representatives_is same_budget =
      subst (λ (x : Netlist). Searches v saids body total settings steps x representatives budget) circuit_is
      (subst (λ (x : List ℕ). Searches v saids body total settings steps v.circuit x budget) representatives_is
      (subst (λ (x : ℕ). Searches v saids body total settings steps v.circuit v.representatives x) (sym same_budget)
      by_verdicts))

-- ---- what is said of one fault

-- what is said by a first detection, or by an entry where there is none
pub said_by_clauses : (place : Option Place) (entry : Option recorded.Entry) (said : Said)
    → IfSome place (λ (p : Place). said ≡ Detected p) → (place ≡ None → said ≡ said_by_entry entry)
    → said ≡ said_by_both place entry
said_by_clauses (Some place) entry said detected other = detected
said_by_clauses None entry said detected other = other refl
