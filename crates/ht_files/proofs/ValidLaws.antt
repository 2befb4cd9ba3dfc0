-- The files of the steps that a finished engine stands for are valid.
use Rattle.std.proofs.Common.{◌≡◌, ◌<◌, ◌≤◌, ◌+◌, ◌-◌, ℕ, List, [], ◌∷◌, Bool, true, Some, length, refl, subst, arith}
use Rattle.std.specs.List.{Contains}
use Rattle.std.proofs.lemmas.List.Elements.{All-contains}
use Rattle.ht_net.specs.declared.fault.Fault.{Fault}
use Rattle.ht_net.specs.Circuit.Netlist.{IsCircuit, Netlist}
use Rattle.ht_faults.specs.Sites.{faults_of}
use Rattle.ht_faults.specs.Classes.{AreClasses, fault_at}
use Rattle.ht_bench.proofs.AllLaws.{all_from}
use Rattle.ht_ports.specs.LineRule.{max_text_bytes}
use Rattle.ht_tree.specs.declared.entry.Entry.{Entry}
use Rattle.ht_tree.specs.declared.entry.Entry.TheVariants as entries
use Rattle.ht_tree.specs.Window.Windows as window
use Rattle.ht_invariant.specs.declared.finding.Invariant.{Invariant}
use Rattle.ht_texts.specs.declared.said.Said.{Said}
use Rattle.ht_texts.specs.Reports.{report_text}
use Rattle.ht_texts.specs.SearchReports.{HasPlainNames, IsBudget, IsSearchOf}
use Rattle.ht_texts.specs.Verdicts.{said_at}
use Rattle.ht_texts.proofs.ReportWrittenLaws.{written_is_report}
use Rattle.ht_texts.proofs.WrittenLaws.{written_is_test_text}
use Rattle.ht_entries.specs.declared.numbered.Numbered.{Numbered}
use Rattle.ht_entries.specs.EntryTexts.{AreEntryTexts, FitsFormat, IsEntryText, has_form}
use Rattle.ht_entries.specs.EntryLines.{whole_part}
use Rattle.ht_entries.proofs.TextLaws.{written_is_proof_text}
use Rattle.ht_valid.specs.ValidFiles.{AreValid, IsBacking, IsJustified, IsOwn}
use Rattle.ht_valid.specs.WritableEntries.{IsWritable}
use Rattle.ht_valid.specs.TrueVerdicts.{IsWorkedOn}
use Rattle.ht_valid.proofs.EntryTextLaws.{passing_text}
use Rattle.ht_engine.specs.declared.settings.Search.{Search}
use Rattle.ht_engine.specs.declared.settings.Search.TheVariants.{Plain, Deep}
use Rattle.ht_engine.specs.declared.settings.Settings.{Settings}
use Rattle.ht_engine.specs.declared.step.Step.{Step}
use Rattle.ht_engine.specs.EngineStands.{EngineStandsFor, EngineView, EntryHolds, IsSaid}
use Rattle.ht_engine.specs.declared.work.Work.TheVariants as work
use Rattle.ht_engine.specs.DeepWork.{IsDeepWork, IsWorkBy, states_reached}
use Rattle.ht_engine.specs.FaultWork.{IsWork}
use Rattle.ht_engine.specs.Steps.{AreFinished, IsChosen, IsOwnEntry, entries_of, vectors_of_steps}
use Rattle.ht_engine.proofs.StepLaws.{AreInOrder, IsMade, steps_in_order, steps_made}
use Rattle.ht_files.specs.Generated.{content_of}
use Rattle.ht_files.specs.Saids.{AreSaid}
use Rattle.ht_files.specs.StepTexts.{format_of, proofs_of, tests_of}
use Rattle.ht_files.proofs.SaidLaws.{agrees_if_said, backs_if_said, has_entry_if_said}

-- What the work gives can be written, and the format of its kind of search has its form.
pub record FitsSearch (search : Search) (e : Entry) : Type 0 where
  pub writable : IsWritable e
  pub form : has_form (format_of search) (whole_part e) ≡ true

plain_fits : (c : Netlist) (fault : Fault) (budget : ℕ) (invariant : Invariant) (e : Entry)
    → IsWork c fault budget invariant (work.Entry e) → FitsSearch Plain e
plain_fits c fault budget invariant (entries.Untestable z tokens) is = record { writable = tt; form = refl }
plain_fits c fault budget invariant (entries.UntestableFrom state clauses z tokens) is =
    record { writable = tt; form = refl }
plain_fits c fault budget invariant (entries.UndetectableBySets rows) is = absurd is
plain_fits c fault budget invariant (entries.UndetectableByCubes cubes steps) is = absurd is
plain_fits c fault budget invariant (entries.Aborted told walk aim sweep) is = record { writable = tt; form = refl }

deep_fits : (c : Netlist) (fault : Fault) (settings : Settings) (states : window.Start) (invariant : Invariant) (e : Entry)
    → IsDeepWork c fault settings states invariant (work.Entry e) → FitsSearch Deep e
deep_fits c fault settings states invariant (entries.Untestable z tokens) is = record { writable = tt; form = refl }
deep_fits c fault settings states invariant (entries.UntestableFrom state clauses z tokens) is =
    record { writable = tt; form = refl }
deep_fits c fault settings states invariant (entries.UndetectableBySets rows) is = record {
  writable = is.1.rows_are.listed;
  form = refl;
}
deep_fits c fault settings states invariant (entries.UndetectableByCubes cubes steps) is = absurd is.1.1
deep_fits c fault settings states invariant (entries.Aborted told walk aim sweep) is =
    record { writable = tt; form = refl }

made_fits : (search : Search) (c : Netlist) (fault : Fault) (settings : Settings) (before : List (List Bool))
    (invariant : Invariant) (e : Entry) → IsWorkBy search c fault settings before invariant (work.Entry e)
    → FitsSearch search e
made_fits Plain c fault settings before invariant e is = plain_fits c fault settings.budget invariant e is
made_fits Deep c fault settings before invariant e is =
    deep_fits c fault settings (states_reached c fault settings.start before) invariant e is

-- Steps that an engine stands for when it is finished, and what it says of each fault.
pub record IsFinishedWork (e : EngineView) (steps : List Step) (saids : List Said) : Type 0 where
  pub circuit : IsCircuit e.circuit
  pub classes : AreClasses e.circuit e.representatives
  pub budget : IsBudget e.settings.budget
  pub stands : EngineStandsFor e steps
  pub finished : AreFinished e.circuit e.representatives e.settings steps
  pub said : AreSaid e (length (faults_of e.circuit)) saids

module _ (e : EngineView) (steps : List Step) (saids : List Said) (work : IsFinishedWork e steps saids) where
  -- what a finished engine says of a representative is what its steps say of it
  pub says : (i : ℕ) → IsOwn e.circuit e.representatives i
      → IsSaid e.circuit e.settings.start steps i (said_at saids i)
  says i own = (work.said.says i own.listed own).by_steps steps work.stands

  -- ---- the report

  is_search : IsSearchOf e.circuit e.representatives (length (faults_of e.circuit)) e.settings.budget saids
  is_search = record {
    budget_is = work.budget;
    listed = omega arith;
    saids_are = record {
      each = work.said.each;
      sayable = λ i inside own. (work.said.says i inside (record { listed = inside; own = own })).sayable;
    };
  }

  -- a representative that was to be worked on has a verdict
  pub worked_on : (i : ℕ) → IsOwn e.circuit e.representatives i → IsChosen e.representatives e.settings i
      → IsWorkedOn (content_of e.settings steps saids) i
  worked_on i own chosen undetected =
      let is = subst (IsSaid e.circuit e.settings.start steps i) undetected (says i own) in
      work.finished.none_awaits i
      (record { own = own; chosen = chosen; undetected = is.undetected; without_entry = is.kind_is })

  -- ---- the proofs

  in_order : AreInOrder e.circuit e.representatives e.settings steps
  in_order = steps_in_order e.circuit e.representatives e.settings steps work.stands.are

  own_number : (entry : Numbered) → Contains (entries_of steps) entry → IsOwnEntry e.circuit e.representatives entry
  own_number entry among = All-contains (IsOwnEntry e.circuit e.representatives) (entries_of steps) entry in_order.own
      among

  holds : (entry : Numbered) → Contains (entries_of steps) entry
      → EntryHolds e.circuit e.settings (entry.number - 1) entry.entry
  holds entry among =
      All-contains (λ (n : Numbered). EntryHolds e.circuit e.settings (n.number - 1) n.entry) (entries_of steps) entry
      work.stands.pass among

  fits : (entry : Numbered) → Contains (entries_of steps) entry → FitsSearch e.settings.search entry.entry
  fits entry among =
      let made = All-contains (IsMade e.circuit e.settings) (entries_of steps) entry
      (steps_made e.circuit e.representatives e.settings steps work.stands.are) among in
      made_fits e.settings.search e.circuit (fault_at e.circuit (entry.number - 1)) e.settings made.before
      made.invariant entry.entry made.given

  has_text : (entry : Numbered) → Contains (entries_of steps) entry → IsEntryText entry
  has_text entry among =
      let number = own_number entry among in
      let counted = number.counted in
      let same : entry.number - 1 + 1 ≡ entry.number = omega (arith, counted) in
      subst (λ (n : ℕ). IsEntryText (record { number = n; entry = entry.entry })) same
      (passing_text e.circuit e.settings.start (fault_at e.circuit (entry.number - 1)) e.settings.budget
      (entry.number - 1) entry.entry work.circuit number.own.listed work.budget.1 (fits entry among).writable
      (holds entry among).0)

  have_texts : AreEntryTexts (format_of e.settings.search) (entries_of steps)
  have_texts = record {
    each = all_from IsEntryText (entries_of steps) has_text;
    fits = all_from (FitsFormat (format_of e.settings.search)) (entries_of steps)
        (λ entry among. (fits entry among).form);
    rises = in_order.rises;
  }

  is_backing : (entry : Numbered) → Contains (entries_of steps) entry
      → IsBacking e.circuit e.representatives (content_of e.settings steps saids) entry
  is_backing entry among =
      let number = own_number entry among in
      let counted = number.counted in
      let i = entry.number - 1 in
      record {
        own = number.own;
        counted = counted;
        backs = backs_if_said e steps i in_order.rises entry (omega (arith, counted))
            among (holds entry among) (said_at saids i) (says i number.own);
      }

  -- ---- the three together

  -- the vectors and the entries of a finished engine's steps justify what it says of each fault
  pub justified : IsJustified e.circuit e.representatives (content_of e.settings steps saids)
  justified = record {
    agrees = λ i own. agrees_if_said e steps i (said_at saids i) (says i own);
    backed = all_from (IsBacking e.circuit e.representatives (content_of e.settings steps saids))
        (entries_of steps) is_backing;
    complete = λ i own needs. has_entry_if_said e steps i (said_at saids i) (says i own) needs;
  }

  -- the tests, the report and the proofs of a finished engine are valid files, if each is short enough
  pub are_valid : HasPlainNames e.circuit → length (tests_of steps) ≤ max_text_bytes
      → length (proofs_of e.settings steps) ≤ max_text_bytes
      → length (report_text e.circuit e.representatives (Some e.settings.budget) saids) ≤ max_text_bytes
      → AreValid e.circuit e.representatives e.settings.start (tests_of steps)
      (report_text e.circuit e.representatives (Some e.settings.budget) saids) (proofs_of e.settings steps)
      (content_of e.settings steps saids)
  are_valid names short_tests short_proofs short_report = record {
    stated = refl;
    vectors = written_is_test_text e.circuit (vectors_of_steps steps) work.stands.wide short_tests;
    reported = written_is_report e.circuit e.representatives e.settings.budget saids work.circuit work.classes names
        is_search short_report;
    proved = written_is_proof_text (format_of e.settings.search) (entries_of steps) have_texts short_proofs;
    justified = justified;
  }
