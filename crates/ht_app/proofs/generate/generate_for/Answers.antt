use Rattle.std.proofs.Common.{◌≡◌, ◌∙◌, [], refl, sym, ap, subst, rules}
use Rattle.std.specs.Prelude.{Result, Err}
use Rattle.ht_net.specs.Circuit.Netlist as net
use Rattle.ht_net.specs.Detect.Detection.{unknown_state}
use Rattle.ht_words.specs.Jobs.{asked_by}
use Rattle.ht_words.specs.declared.job.Job.TheVariants as job_of
use Rattle.ht_words.specs.declared.job.GenOptions.{GenOptions as Options}
use Rattle.ht_app.proofs.Common.{Asked, DeskView, EndsJob, HasReadTo, JobBasis, RunError, RunFiles}
use Rattle.ht_inputs.specs.Inputs.{IsStated}
use Rattle.ht_inputs.specs.declared.run_error.RunError.TheVariants.{NoMemory}
use Rattle.ht_app.proofs.EndLaws.{ends_unread}
use Rattle.ht_inputs.proofs.ReadingLaws.{basis_from, basis_of, no_room}
use Rattle.ht_app.proofs.generate.generate_for.Given as given
use Rattle.ht_app.proofs.generate.generate_for.Goals as goal
use Rattle.ht_app.proofs.generate.generate_for.Goals.{In_ok-first, In_ok-start}

abbrev job : RunFiles → Options → Asked
job f options = asked_by (job_of.Gen f options)

-- ---- the files, one after the other

-- the netlist was read
abbrev HasRead : RunFiles → Options → net.Netlist → DeskView → DeskView → Type 0
HasRead f options c first now = (b : JobBasis) → b.circuit ≡ c → IsStated (job f options) b
    → HasReadTo (job f options) b 1 first now

start_reads : (g : given.Over) (c : In_ok-start g) {first : DeskView}
    (read : HasRead c.args.files.now c.args.options.now c.args.circuit.now first (g.D.Desk.view c.args.desk.now))
    (b : JobBasis) → b.circuit ≡ c.args.circuit.now → b.content.start ≡ c.in_ok-start.start.items
    → HasReadTo (job c.args.files.now c.args.options.now) b 2 first (g.D.Desk.view c.read_stated.new.desk)
start_reads g c {first = first} read b circuit starts =
    let stated : IsStated (job c.args.files.now c.args.options.now) b = λ none.
    starts ∙ c.in_ok-start.ensures.unstated none ∙ ap unknown_state (sym circuit) in
    c.in_ok-start.ensures.read (job c.args.files.now c.args.options.now) b first refl refl circuit
    (read b circuit stated) starts

first_reads : (g : given.Over) (c : In_ok-first g) {first : DeskView}
    (read : HasRead c.args.files.now c.args.options.now c.args.circuit.now first (g.D.Desk.view c.args.desk.now))
    (b : JobBasis) → b.circuit ≡ c.args.circuit.now → b.content.start ≡ c.in_ok-start.start.items
    → b.content.list ≡ c.in_ok-first.first.list
    → HasReadTo (job c.args.files.now c.args.options.now) b 3 first (g.D.Desk.view c.read_first.new.desk)
first_reads g c {first = first} read b circuit starts lists =
    c.in_ok-first.ensures.read (job c.args.files.now c.args.options.now) b first refl refl circuit
    (start_reads g (goal.at.In_ok-first g c).In_ok-start read b circuit starts) lists

-- ---- a file ends the run

pub returns-in_err-start : goal.returns-in_err-start
returns-in_err-start g c = λ first read.
    let told = basis_of c.args.circuit.now [] [] in
    let ends = ends_unread (c.in_err-start.ensures.stopped
    (job c.args.files.now c.args.options.now) told first refl refl
    refl (read told refl (λ none. refl))) in
    search (rules, ends)

pub returns-in_err-first : goal.returns-in_err-first
returns-in_err-first g c = λ first read.
    let told = basis_from c.args.circuit.now c.in_ok-start.start.items [] [] in
    let before = start_reads g (goal.at.returns-in_err-first g c).In_ok-start read told refl refl in
    let ends = ends_unread (c.in_err-first.ensures.stopped (job c.args.files.now c.args.options.now) told first refl
    refl refl tt before) in
    search (rules, ends)

pub returns-in_err-listed : goal.returns-in_err-listed
returns-in_err-listed g c = λ first read.
    let told = basis_from c.args.circuit.now c.in_ok-start.start.items c.in_ok-first.first.list [] in
    let ends = ends_unread (no_room (first_reads g (goal.at.returns-in_err-listed g c).In_ok-first read told refl refl
    refl)) in
    let is : c.from_residual-in_err-listed.result ≡ Err NoMemory = search rules in
    subst (λ (r : Result (Unit {0}) RunError). EndsJob (job c.args.files.now c.args.options.now) r first
    (g.D.Desk.view c.read_first.new.desk)) (sym is) ends

-- ---- all were read

pub generate_chosen-done-requires-clause-none : goal.generate_chosen-done-requires-clause-none
generate_chosen-done-requires-clause-none g c = c.in_ok-first.ensures.none

pub returns : goal.returns
returns g c = λ first read. c.generate_chosen-done.ensures first (first_reads g (goal.at.returns g c).In_ok-first read)
