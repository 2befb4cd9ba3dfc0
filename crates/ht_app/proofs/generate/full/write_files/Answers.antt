use Rattle.std.proofs.Common.{◌≡◌, ◌≤◌, ◌+◌, ◌*◌, ◌++◌, ◌∙◌, [], ◌∷◌, ℕ, List, Bool, length, take, refl, sym, ap, subst, rules}
use Rattle.std.specs.Prelude.{Result, Ok, Err}
use Rattle.ht_ports.specs.declared.ports.OutPort.TheVariants.{Proofs}
use Rattle.ht_order.specs.declared.rate.TheConstants.{UNIT_OF_WORK}
use Rattle.ht_verdicts.specs.Standing.{VerdictsView}
use Rattle.ht_full.specs.Searches.{IsEnd, IsFullOf}
use Rattle.ht_engine.specs.declared.step.Step.{Step}
use Rattle.ht_engine.specs.Steps.{entries_of, first_vectors, vectors_of_steps}
use Rattle.ht_verdicts.specs.Kept.{kept_entries}
use Rattle.ht_files.specs.Searched.{AreFound, IsSearched, entry_steps}
use Rattle.ht_files.specs.StepTexts.{proofs_of, tests_of}
use Rattle.ht_inputs.specs.declared.run_error.RunError.TheVariants.{NoMemory}
use Rattle.ht_app.proofs.Common.{DeskView, RunError, RunFiles, Settings, Sizes, Tries, max_text_bytes, proofs_so_far, put}
use Rattle.ht_app.specs.Generating.{Adds, AreSizesOf, WritesAll, WritesEntries, WritesLists}
use Rattle.ht_app.specs.Outputs.{EndsSearch, IsSearchedOf, creation}
use Rattle.ht_app.proofs.GenLaws.{begun_acts, end_text, ends_after, fits, stops_in_steps}
use Rattle.ht_app.proofs.SearchedLaws.{adds_then, ends_search, entries_are, found_by_search, lists_are_found, no_lists, told_by_search, vectors_are}
use Rattle.ht_app.proofs.WritingLaws.{does_in_part, runs_out_last, tries_then}
use Rattle.ht_app.proofs.generate.full.write_files.Given as given
use Rattle.ht_app.proofs.generate.full.write_files.Goals as goal
use Rattle.ht_app.proofs.generate.full.write_files.Goals.{In_ok-report, In_ok-sizes, In_ok-write_entries, In_ok-write_lists}

-- ---- before the first list

pub returns-in_err-create_files : goal.returns-in_err-create_files
returns-in_err-create_files g c =
    let settings = c.args.settings.now in
    let circuit = c.args.circuit.now in
    let stops = stops_in_steps c.args.files.now settings (AreFound circuit settings)
    (IsSearchedOf c.args.work circuit settings)
    (lists_are_found c.requires.classes (no_lists (first_vectors circuit settings)))
    (does_in_part (put Proofs (proofs_so_far settings []) ∷ []) c.in_err-create_files.ensures.does).tries in
    search (rules, stops)

pub returns-in_err-sizes : goal.returns-in_err-sizes
returns-in_err-sizes g c =
    let settings = c.args.settings.now in
    let circuit = c.args.circuit.now in
    let stops = stops_in_steps c.args.files.now settings (AreFound circuit settings)
    (IsSearchedOf c.args.work circuit settings)
    (lists_are_found c.requires.classes (no_lists (first_vectors circuit settings)))
    (tries_then {B = Unit {0}} c.in_ok-create_files.ensures.does.tries
    (record { ends = (c.in_err-sizes.ensures.tries settings c.requires.deep).ends })) in
    search (rules, stops)

-- the acts up to some steps
steps_tried : (g : given.Over) (c : In_ok-sizes g) {A : Type 0} {steps : List Step} {later : Sizes}
    {result : Result A RunError} {b : DeskView}
    → Adds steps c.in_ok-sizes.sizes later result (g.D.Desk.view c.begin_proofs.new.desk) b
    → Tries (begun_acts c.args.files.now c.args.settings.now steps) result (g.D.Desk.view c.args.desk.now) b
steps_tried g c adds = tries_then c.in_ok-create_files.ensures.does.tries
    (tries_then (c.in_ok-sizes.ensures.tries c.args.settings.now c.requires.deep) adds.tries)

-- ---- lists

pub returns-in_err-write_lists : goal.returns-in_err-write_lists
returns-in_err-write_lists g c =
    let settings = c.args.settings.now in
    let circuit = c.args.circuit.now in
    let w = c.in_err-write_lists.ensures.writes circuit c.args.listed.now.classes settings.start
    (first_vectors circuit settings) c.args.marks.now (c.args.work * UNIT_OF_WORK) c.requires.is in
    let stops = stops_in_steps c.args.files.now settings (AreFound circuit settings)
    (IsSearchedOf c.args.work circuit settings) (lists_are_found c.requires.classes w.are)
    (steps_tried g (goal.at.returns-in_err-write_lists g c).In_ok-sizes w.adds) in
    search (rules, stops)

all_lists : (g : given.Over) (c : In_ok-write_lists g)
    → WritesLists {A = Unit {0}} c.args.circuit.now (first_vectors c.args.circuit.now c.args.settings.now)
    c.write_lists.new.search.known.vectors.list c.in_ok-sizes.sizes c.write_lists.new.sizes (Ok tt)
    (g.D.Desk.view c.begin_proofs.new.desk) (g.D.Desk.view c.write_lists.new.desk)
all_lists g c = c.in_ok-write_lists.ensures.writes c.args.circuit.now c.args.listed.now.classes
    c.args.settings.now.start (first_vectors c.args.circuit.now c.args.settings.now) c.args.marks.now
    (c.args.work * UNIT_OF_WORK) c.requires.is

at_end : (g : given.Over) (c : In_ok-write_lists g)
    → IsFullOf c.args.circuit.now c.args.listed.now.classes c.args.settings.now.start
    (first_vectors c.args.circuit.now c.args.settings.now) c.args.marks.now (c.args.work * UNIT_OF_WORK)
    c.write_lists.new.search × IsEnd c.write_lists.new.search
at_end g c = c.in_ok-write_lists.ensures.ends c.args.circuit.now c.args.listed.now.classes
    c.args.settings.now.start (first_vectors c.args.circuit.now c.args.settings.now) c.args.marks.now
    (c.args.work * UNIT_OF_WORK) c.requires.is

-- ---- entries

pub write_entries-requires-clause-all : goal.write_entries-requires-clause-all
write_entries-requires-clause-all g c =
    let full = at_end g (goal.at.write_entries-requires-clause-all g c).In_ok-write_lists in
    c.entries_decide.ensures.room
    ∙ ap (λ (v : VerdictsView). length v.representatives) c.verdicts-verdicts.ensures
    ∙ ap (λ (l : List ℕ). length l) full.0.known.classes ∙ sym c.len.ensures

pub returns-in_err-write_entries : goal.returns-in_err-write_entries
returns-in_err-write_entries g c =
    let at = goal.at.returns-in_err-write_entries g c in
    let settings = c.args.settings.now in
    let circuit = c.args.circuit.now in
    let lists = all_lists g at.In_ok-write_lists in
    let full = at_end g at.In_ok-write_lists in
    let w = c.in_err-write_entries.ensures.writes in
    let stops = stops_in_steps c.args.files.now settings (AreFound circuit settings)
    (IsSearchedOf c.args.work circuit settings)
    (found_by_search circuit settings c.args.listed.now.classes c.args.marks.now (c.args.work * UNIT_OF_WORK)
    c.write_lists.new.search c.verdicts-verdicts.result.now c.verdicts-verdicts.ensures full.0 c.requires.classes
    c.entries_decide.ensures.decide lists.steps lists.are w.count)
    (steps_tried g at.In_ok-sizes (adds_then _ lists.adds w.adds)) in
    search (rules, stops)

-- all steps
abbrev all_steps : (g : given.Over) → In_ok-write_entries g → List Step
all_steps g c = (all_lists g (goal.at.In_ok-write_entries g c).In_ok-write_lists).steps
    ++ entry_steps 0 (take c.in_ok-write_entries.ensures.writes.count
    c.verdicts-verdicts.result.now.entries)

all_added : (g : given.Over) (c : In_ok-write_entries g) → Adds {A = Unit {0}} (all_steps g c) c.in_ok-sizes.sizes
    c.write_entries.new.sizes (Ok tt) (g.D.Desk.view c.begin_proofs.new.desk) (g.D.Desk.view c.write_entries.new.desk)
all_added g c = adds_then (Ok tt) (all_lists g (goal.at.In_ok-write_entries g c).In_ok-write_lists).adds
    c.in_ok-write_entries.ensures.writes.adds

all_found : (g : given.Over) (c : In_ok-write_entries g)
    → AreFound c.args.circuit.now c.args.settings.now (all_steps g c)
all_found g c =
    let at = goal.at.In_ok-write_entries g c in
    let lists = all_lists g at.In_ok-write_lists in
    found_by_search c.args.circuit.now c.args.settings.now c.args.listed.now.classes c.args.marks.now
    (c.args.work * UNIT_OF_WORK) c.write_lists.new.search c.verdicts-verdicts.result.now c.verdicts-verdicts.ensures
    (at_end g at.In_ok-write_lists).0 c.requires.classes c.entries_decide.ensures.decide lists.steps lists.are
    c.in_ok-write_entries.ensures.writes.count

-- memory ran out after them
no_end : (g : given.Over) (c : In_ok-write_entries g) → WritesAll c.args.files.now c.args.settings.now
    (AreFound c.args.circuit.now c.args.settings.now) (IsSearchedOf c.args.work c.args.circuit.now c.args.settings.now)
    (Err NoMemory) (g.D.Desk.view c.args.desk.now) (g.D.Desk.view c.write_entries.new.desk)
no_end g c = stops_in_steps c.args.files.now c.args.settings.now
    (AreFound c.args.circuit.now c.args.settings.now) (IsSearchedOf c.args.work c.args.circuit.now c.args.settings.now)
    (all_found g c)
    (runs_out_last (Unit {0}) (steps_tried g (goal.at.In_ok-write_entries g c).In_ok-sizes (all_added g c)))

pub returns-in_err-add : goal.returns-in_err-add
returns-in_err-add g c =
    let stops = no_end g (goal.at.returns-in_err-add g c).In_ok-write_entries in search (rules, stops)

-- ---- the report

pub write_searched-requires-clause-circuit : goal.write_searched-requires-clause-circuit
write_searched-requires-clause-circuit g c =
    let full = at_end g (goal.at.write_searched-requires-clause-circuit g c).In_ok-write_lists in
    ap (λ (v : VerdictsView). v.circuit) c.verdicts-verdicts.ensures ∙ full.0.known.circuit

pub write_searched-requires-clause-representatives : goal.write_searched-requires-clause-representatives
write_searched-requires-clause-representatives g c =
    let full = at_end g (goal.at.write_searched-requires-clause-representatives g c).In_ok-write_lists in
    ap (λ (v : VerdictsView). v.representatives) c.verdicts-verdicts.ensures ∙ full.0.known.classes

pub returns-in_err-report : goal.returns-in_err-report
returns-in_err-report g c =
    let stops = no_end g (goal.at.returns-in_err-report g c).In_ok-write_entries in search (rules, stops)

sizes_are : (g : given.Over) (c : In_ok-write_entries g)
    → AreSizesOf c.args.settings.now (all_steps g c) c.write_entries.new.sizes
sizes_are g c = (all_added g c).counted c.args.settings.now []
    (c.in_ok-sizes.ensures.sizes c.args.settings.now c.requires.deep)

made : (g : given.Over) (c : In_ok-report g) → let steps = all_steps g (goal.at.In_ok-report g c).In_ok-write_entries
    in IsSearchedOf c.args.work c.args.circuit.now c.args.settings.now steps
    (c.in_ok-report.report.body.items ++ c.in_ok-report.report.total.items) c.in_ok-report.report.total.items
made g c =
    let at = goal.at.In_ok-report g c in
    let settings = c.args.settings.now in
    let circuit = c.args.circuit.now in
    let classes = c.args.listed.now.classes in
    let marks = c.args.marks.now in
    let units = c.args.work * UNIT_OF_WORK in
    let s = c.write_lists.new.search in
    let v = c.verdicts-verdicts.result.now in
    let kept = c.verdicts-verdicts.ensures in
    let steps = all_steps g at.In_ok-write_entries in
    let lists = all_lists g at.In_ok-write_lists in
    let end = at_end g at.In_ok-write_lists in
    let w = c.in_ok-write_entries.ensures.writes in
    let decide = c.entries_decide.ensures.decide in
    let told = told_by_search circuit settings classes marks units s v kept end.0 c.requires.classes decide lists.steps
    lists.are lists.whole w.count w.whole c.requires.deep in
    let are = sizes_are g at.In_ok-write_entries in
    let tests_fit : length (tests_of steps) ≤ max_text_bytes =
    subst (λ (n : ℕ). n ≤ max_text_bytes) are.tests are.short in
    let proofs_fit = fits settings steps {old = c.write_entries.new.sizes.proofs.bytes} {new = c.add.new.self.bytes}
    are.proofs
    (c.in_ok-add.ensures.counted
    ∙ ap (λ (l : List ℕ). c.write_entries.new.sizes.proofs.bytes + length l) c.end_line.ensures)
    c.in_ok-add.ensures.short in
    let searched = c.in_ok-report.ensures settings steps refl told c.requires.plain tests_fit proofs_fit in
    let vectors : vectors_of_steps steps ≡ s.known.vectors.list =
    vectors_are circuit settings classes marks units s v kept end.0 c.requires.classes decide lists.steps lists.are
    lists.whole w.count w.whole in
    let entries : entries_of steps ≡ kept_entries s.known.verdicts =
    entries_are circuit settings classes marks units s v kept end.0 c.requires.classes decide lists.steps lists.are
    lists.whole w.count w.whole ∙ ap kept_entries kept in (
      searched,
      ends_search circuit settings classes marks c.args.work s steps c.requires.classes c.requires.marked end.0 end.1
          vectors entries,
    )

-- ---- the end

pub returns : goal.returns
returns g c =
    let at = goal.at.returns g c in
    let settings = c.args.settings.now in
    let circuit = c.args.circuit.now in
    ends_after c.args.files.now settings (AreFound circuit settings) (IsSearchedOf c.args.work circuit settings)
    (all_found g at.In_ok-write_entries) _ _ (made g at.In_ok-report) c.write_end.result
    (steps_tried g at.In_ok-sizes (all_added g at.In_ok-write_entries)) c.write_end.ensures
