use Rattle.std.proofs.Common.{◌≡◌, ◌∙◌, [], ℕ, List, Bool, length, refl, sym, ap, subst, rules}
use Rattle.std.specs.Prelude.{Result, Err, Option}
use Rattle.ht_ports.specs.declared.ports.InPort.TheVariants.{Report, Proofs}
use Rattle.ht_net.specs.Circuit.Netlist as net
use Rattle.ht_faults.specs.Sites.{faults_of}
use Rattle.ht_words.specs.Jobs.{asked_by}
use Rattle.ht_words.specs.declared.job.Job.TheVariants as job_of
use Rattle.ht_words.specs.declared.job.GenOptions.{GenOptions as Options}
use Rattle.ht_files.proofs.PlainNameLaws.{plain_names}
use Rattle.ht_app.proofs.Common.{Asked, DeskView, EndsJob, HasNetlist, HasReadTo, JobBasis, Rows, RunError, RunFiles}
use Rattle.ht_app.proofs.Common.{Settings, Tern}
use Rattle.ht_app.specs.Generating.{WritesTo}
use Rattle.ht_app.specs.Outputs.{search_of, settings_of}
use Rattle.ht_app.proofs.EndLaws.{ends_unread}
use Rattle.ht_app.proofs.PreparedLaws.{changes_read}
use Rattle.ht_app.proofs.GenLaws.{ends_files, given_first, given_numbers, no_more, numbers_of}
use Rattle.ht_inputs.proofs.ReadingLaws.{accepts_all, basis_from, skipped}
use Rattle.ht_app.proofs.generate.generate_chosen.Given as given
use Rattle.ht_app.proofs.generate.generate_chosen.Goals as goal
use Rattle.ht_app.proofs.generate.generate_chosen.Goals.{After-len, In_ok-chosen}

abbrev job : RunFiles → Options → Asked
job f options = asked_by (job_of.Gen f options)

abbrev basis : net.Netlist → List Tern → List (List Bool) → List ℕ → JobBasis
basis c start list chosen = record (basis_from c start list []) { chosen = chosen }

-- ---- the files

-- the netlist, the start and the first vectors were read
abbrev HaveRead : RunFiles → Options → net.Netlist → List Tern → List (List Bool) → DeskView → DeskView → Type 0
HaveRead f options c start list before now = (b : JobBasis) → b.circuit ≡ c → b.content.start ≡ start
    → b.content.list ≡ list → HasReadTo (job f options) b 3 before now

-- the ports of a report and of proofs aren't read
to_faults : (f : RunFiles) (options : Options) {c : net.Netlist} {start : List Tern} {list : List (List Bool)}
    {before now : DeskView} → HasNetlist c → HaveRead f options c start list before now → (chosen : List ℕ)
    → HasReadTo (job f options) (basis c start list chosen) 5 before now
to_faults f options {c = c} {start = start} {list = list} netlist read chosen =
    skipped (skipped (read (basis c start list chosen) refl refl refl) Report refl refl netlist) Proofs refl refl
    netlist

-- how many faults there are
counted : (g : given.Over) (c : After-len g) → length (faults_of c.args.circuit.now) ≡ c.len.result
counted g c = ap length (sym c.requires.faults) ∙ sym c.len.ensures

abbrev told : (g : given.Over) → In_ok-chosen g → JobBasis
told g c = basis c.args.circuit.now c.args.start.items c.args.first.list (numbers_of c.in_ok-chosen.chosen)

all_reads : (g : given.Over) (c : In_ok-chosen g) {before : DeskView}
    (read : HaveRead c.args.files.now c.args.options.now c.args.circuit.now c.args.start.items c.args.first.list before
    (g.D.Desk.view c.args.desk.now))
    → HasReadTo (job c.args.files.now c.args.options.now) (told g c) 6 before (g.D.Desk.view c.read_chosen.new.desk)
all_reads g c {before = before} read =
    c.in_ok-chosen.ensures.read (job c.args.files.now c.args.options.now) (told g c) before refl
    (counted g (goal.at.In_ok-chosen g c).After-len)
    (to_faults c.args.files.now c.args.options.now c.requires.netlist read (numbers_of c.in_ok-chosen.chosen))
    (given_numbers c.in_ok-chosen.chosen c.args.options.now.faults c.in_ok-chosen.ensures.named)

-- ---- the list of faults ends the run

pub returns-in_err-chosen : goal.returns-in_err-chosen
returns-in_err-chosen g c = λ before read.
    let f = c.args.files.now in
    let options = c.args.options.now in
    let ends = ends_unread (c.in_err-chosen.ensures.stopped (job f options)
    (basis c.args.circuit.now c.args.start.items c.args.first.list []) before refl
    (counted g (goal.at.returns-in_err-chosen g c).After-len) tt (to_faults f options c.requires.netlist read [])) in
    let is : c.from_residual.result ≡ Err c.in_err-chosen.field-0.0 = search rules in
    subst (λ (r : Result (Unit {0}) RunError). EndsJob (job f options) r before (g.D.Desk.view c.read_chosen.new.desk))
    (sym is) ends

-- ---- the files are written

pub run_search-done-requires-clause-plain : goal.run_search-done-requires-clause-plain
run_search-done-requires-clause-plain g c =
    let has = c.requires.netlist in
    plain_names has.0 c.args.circuit.now has.1.stands

-- what the engine is told
abbrev settings : Options → List Tern → Rows → Option (List ℕ) → Settings
settings o start first chosen = record {
  budget = o.budget;
  random = o.random;
  seed = o.seed;
  weighted = o.weighted;
  search = search_of o.depth;
  start = start;
  first = first;
  chosen = chosen;
}

are_settings : (g : given.Over) (c : In_ok-chosen g)
    → settings c.args.options.now c.args.start.items c.args.first c.in_ok-chosen.chosen
    ≡ settings_of (told g c) (job c.args.files.now c.args.options.now)
are_settings g c =
    let o = c.args.options.now in
    ap (λ (v : Rows). settings o c.args.start.items v c.in_ok-chosen.chosen)
    (given_first c.args.first o.first c.args.circuit.now.inputs c.requires.width c.requires.none)
    ∙ ap (settings o c.args.start.items _)
    (given_numbers c.in_ok-chosen.chosen o.faults c.in_ok-chosen.ensures.named)

ends : (g : given.Over) (c : In_ok-chosen g) {before : DeskView}
    (read : HaveRead c.args.files.now c.args.options.now c.args.circuit.now c.args.start.items c.args.first.list before
    (g.D.Desk.view c.args.desk.now))
    (told_settings : Settings)
    → told_settings ≡ settings c.args.options.now c.args.start.items c.args.first c.in_ok-chosen.chosen
    → (result : Result (Unit {0}) RunError) (b : DeskView)
    → WritesTo c.args.options.now.depth c.args.options.now.work c.args.files.now c.args.circuit.now told_settings result
    (g.D.Desk.view c.read_chosen.new.desk) b
    → EndsJob (job c.args.files.now c.args.options.now) result before b
ends g c read told_settings are result b w =
    let f = c.args.files.now in
    let options = c.args.options.now in
    let reads = all_reads g c read in
    ends_files f options (changes_read reads) (accepts_all reads (no_more f options) c.requires.netlist
    c.requires.latches c.requires.widths) result
    (subst (λ (s : Settings). WritesTo options.depth options.work f c.args.circuit.now s result
    (g.D.Desk.view c.read_chosen.new.desk) b)
    (are ∙ are_settings g c) w)

pub returns : goal.returns
returns g c = λ before read. ends g (goal.at.returns g c).In_ok-chosen read c.settings_for-settings.result
    c.settings_for-settings.ensures c.run_search-done.result (g.D.Desk.view c.run_search-done.new.desk)
    c.run_search-done.ensures
