use Rattle.std.proofs.Common.{◌≡◌, refl, subst, sym}
use Rattle.std.specs.Prelude.{List, Option, Result, ℕ}
use Rattle.ht_app.proofs.Common.{DeskView, EndsJob, RunError, asked_by}
use Rattle.ht_words.specs.declared.job.Job.{Job}
use Rattle.ht_words.specs.declared.job.Job.TheVariants as job_of
use Rattle.ht_app.specs.Outputs.{MakesOneFile}
use Rattle.ht_app.proofs.commands.do_file_job.Goals as goal

-- the job is of this kind
ends_as : {result : Result (Unit {0}) RunError} {a b : DeskView} {job kind : Job} → job ≡ kind
    → EndsJob (asked_by kind) result a b → EndsJob (asked_by job) result a b
ends_as {result = result} {a = a} {b = b} is ends =
    subst (λ (k : Job). EndsJob (asked_by k) result a b) (sym is) ends

pub returns-in-Sim : goal.returns-in-Sim
returns-in-Sim g c =
    let kind = c.in-Sim in
    ends_as kind.is (c.finish.ensures (asked_by (job_of.Sim kind.netlist kind.tests kind.out kind.start))
    (g.D.Desk.view c.args.desk.now)
    refl refl (c.simulate-made.ensures kind.out))

pub returns-in-Compact : goal.returns-in-Compact
returns-in-Compact g c =
    let kind = c.in-Compact in
    ends_as kind.is (c.finish-in-Compact.ensures (asked_by (job_of.Compact kind.netlist kind.tests kind.out kind.runs))
    (g.D.Desk.view c.args.desk.now) refl refl (c.compact-made.ensures kind.out))

pub returns-in-Diagnose : goal.returns-in-Diagnose
returns-in-Diagnose g c =
    let kind = c.in-Diagnose in
    ends_as kind.is (c.finish-in-Diagnose.ensures (asked_by
    (job_of.Diagnose kind.netlist kind.tests kind.responses kind.out))
    (g.D.Desk.view c.args.desk.now) refl refl (c.diagnose-made.ensures kind.out))

pub returns-in-Uninit : goal.returns-in-Uninit
returns-in-Uninit g c =
    let kind = c.in-Uninit in
    ends_as kind.is (c.finish-in-Uninit.ensures (asked_by (job_of.Uninit kind.netlist kind.out kind.budget))
    (g.D.Desk.view c.args.desk.now) refl refl (c.uninit-made.ensures kind.out))

-- each job that makes one file is of one of these kinds
none_is_left : (job : Job)
    → ((netlist tests out : List ℕ) (start : Option (List ℕ)) → job ≡ job_of.Sim netlist tests out start → ⊥)
    → ((netlist tests out : List ℕ) (runs : Option ℕ) → job ≡ job_of.Compact netlist tests out runs → ⊥)
    → ((netlist tests responses out : List ℕ) → job ≡ job_of.Diagnose netlist tests responses out → ⊥)
    → ((netlist out : List ℕ) (budget : ℕ) → job ≡ job_of.Uninit netlist out budget → ⊥)
    → MakesOneFile (asked_by job).command → ⊥
none_is_left (job_of.Sim netlist tests out start) no_sim no_compact no_diagnose no_uninit one =
    no_sim netlist tests out start refl
none_is_left (job_of.Compact netlist tests out runs) no_sim no_compact no_diagnose no_uninit one =
    no_compact netlist tests out runs refl
none_is_left (job_of.Diagnose netlist tests responses out) no_sim no_compact no_diagnose no_uninit one =
    no_diagnose netlist tests responses out refl
none_is_left (job_of.Uninit netlist out budget) no_sim no_compact no_diagnose no_uninit one =
    no_uninit netlist out budget refl
none_is_left job no_sim no_compact no_diagnose no_uninit one = one

pub unreachable-requires : goal.unreachable-requires
unreachable-requires g c =
    let other = c.in_default in
    none_is_left c.args.job.now other.not-Sim other.not-Compact other.not-Diagnose other.not-Uninit c.requires
