use Rattle.std.proofs.Common.{◌≡◌, ◌≤◌, List, [], ℕ, Option, true, refl, sym, ap, rules, arith}
use Rattle.std.proofs.lemmas.Result.{IfOk-weaker}
use Rattle.std.specs.Prelude.{None, Some}
use Rattle.ht_app.proofs.Common.{Asked, Content, HasReadTo, InPort, Numbered, RunFiles, Said, input_name, order_of}
use Rattle.ht_words.specs.Jobs.{asked_by}
use Rattle.ht_words.specs.declared.job.Job.TheVariants as job_of
use Rattle.ht_ports.specs.declared.ports.InPort.TheVariants as in_port
use Rattle.ht_ports.specs.declared.ports.InPort.TheVariants.{Faults, Netlist}
use Rattle.ht_files.proofs.PlainNameLaws.{plain_names}
use Rattle.ht_judge.proofs.JudgedLaws.{agreed_sayable}
use Rattle.ht_valid.proofs.DecidedLaws.{are_decided}
use Rattle.ht_valid.proofs.TruthLaws.{true_verdicts}
use Rattle.ht_inputs.specs.Grading.{JudgesFiles}
use Rattle.ht_inputs.specs.Judging.{VerdictsAreRead, report_basis}
use Rattle.ht_inputs.proofs.ReadingLaws.{one_more, read_so, skipped, stops_there}
use Rattle.ht_app.proofs.PreparedLaws.{prepares}
use Rattle.ht_app.proofs.report.report.Given as given
use Rattle.ht_app.proofs.report.report.Goals as goal
use Rattle.ht_app.proofs.report.report.Goals.{In_ok-claims, In_ok-graded}

abbrev job : RunFiles → ℕ → Option (List ℕ) → Asked
job files budget start = asked_by (job_of.Report files budget start)

judges : (files : RunFiles) (budget : ℕ) (start : Option (List ℕ)) → JudgesFiles (job files budget start) files start
judges files budget start = record {
  netlist = refl;
  tests = refl;
  started = refl;
  may_start = refl;
  denies = λ line. refl;
  fault = λ c. tt;
  circuit = λ basis text good classes. (good, classes);
  vectors = λ basis text is. is;
}

no_more : (files : RunFiles) (budget : ℕ) (start : Option (List ℕ)) (p : InPort) → 5 ≤ order_of
    (job files budget start) p
    → input_name (job files budget start) p ≡ None
no_more files budget start Netlist late = absurd (omega (arith, late))
no_more files budget start Faults late = refl
no_more files budget start p late = absurd (omega (arith, late))

-- ---- what was read

-- what the files say, with these verdicts and entries
abbrev said : (g : given.Over) → In_ok-graded g → List Said → List Numbered → Content
said g c saids entries = record {
  start = c.in_ok-graded.graded.start.items;
  list = c.in_ok-graded.ensures.graded.list;
  budget = c.args.budget;
  saids = saids;
  entries = entries;
}

-- the tests were, and no report is
vectors_read : (g : given.Over) (c : In_ok-graded g) (saids : List Said) (entries : List Numbered)
    → HasReadTo (job c.args.files.now c.args.budget c.args.start.now)
    (report_basis c.in_ok-graded.graded.circuit c.in_ok-graded.graded.listed.classes (said g c saids entries)) 4
    (g.D.Desk.view c.args.desk.now) (g.D.Desk.view c.read_graded.new.desk)
vectors_read g c saids entries =
    let graded = c.in_ok-graded.ensures.graded in
    skipped (graded.reads (job c.args.files.now c.args.budget c.args.start.now) true (said g c saids entries)
    (judges c.args.files.now c.args.budget c.args.start.now) refl refl) in_port.Report refl refl graded.netlist

verdicts_are : (g : given.Over) (c : In_ok-claims g)
    → VerdictsAreRead c.in_ok-graded.graded.circuit c.in_ok-graded.graded.listed.classes
    (said g (goal.at.In_ok-claims g c).In_ok-graded [] []) c.as_str.result.now
    (g.D.Desk.view c.read_graded.new.desk) c.in_ok-claims.claims
verdicts_are g c = c.in_ok-claims.ensures.read (said g (goal.at.In_ok-claims g c).In_ok-graded [] []) refl refl
    c.in_ok-graded.ensures.graded.first

-- the proofs were, and say what is claimed
all_reads : (g : given.Over) (c : In_ok-claims g) → HasReadTo (job c.args.files.now c.args.budget c.args.start.now)
    (report_basis c.in_ok-graded.graded.circuit c.in_ok-graded.graded.listed.classes
    (said g (goal.at.In_ok-claims g c).In_ok-graded c.in_ok-claims.claims.saids.items (verdicts_are g c).entries)) 5
    (g.D.Desk.view c.args.desk.now) (g.D.Desk.view c.read_verdicts.new.desk)
all_reads g c =
    let is = verdicts_are g c in
    one_more (vectors_read g (goal.at.In_ok-claims g c).In_ok-graded c.in_ok-claims.claims.saids.items is.entries) refl
    (ap Some (sym c.as_str.ensures)) c.in_ok-claims.ensures.frame c.in_ok-graded.ensures.graded.netlist
    (read_so _ (λ text good. (refl, good)) is.are.read)

-- ---- why it stops

pub returns-in_err-graded : goal.returns-in_err-graded
returns-in_err-graded g c =
    let ends = c.in_err-graded.ensures.stopped (job c.args.files.now c.args.budget c.args.start.now)
    (judges c.args.files.now c.args.budget c.args.start.now) in
    record { made = search rules; stopped = search (rules, ends) }

pub read_verdicts-requires-clause-graded : goal.read_verdicts-requires-clause-graded
read_verdicts-requires-clause-graded g c = c.in_ok-graded.ensures.graded.of_circuit

pub returns-in_err-claims : goal.returns-in_err-claims
returns-in_err-claims g c =
    let at = goal.at.returns-in_err-claims g c in
    let ends = stops_there (vectors_read g at.In_ok-graded [] []) refl (ap Some (sym c.as_str.ensures))
    c.in_err-claims.ensures.frame (λ is. tt) c.in_err-claims.field-0.0 (c.in_err-claims.ensures.stops
    (job c.args.files.now c.args.budget c.args.start.now) (said g at.In_ok-graded [] []) refl refl refl refl
    c.in_ok-graded.ensures.graded.first) in
    record { made = search rules; stopped = search (rules, ends) }

-- ---- the report

pub report_texts-made-requires-clause-graded : goal.report_texts-made-requires-clause-graded
report_texts-made-requires-clause-graded g c = c.in_ok-graded.ensures.graded.of_circuit

pub report_texts-made-requires-clause-plain : goal.report_texts-made-requires-clause-plain
report_texts-made-requires-clause-plain g c =
    let netlist = c.in_ok-graded.ensures.graded.netlist in
    plain_names netlist.0 c.in_ok-graded.graded.circuit netlist.1.stands

pub report_texts-made-requires-clause-search : goal.report_texts-made-requires-clause-search
report_texts-made-requires-clause-search g c =
    let is = verdicts_are g (goal.at.report_texts-made-requires-clause-search g c).In_ok-claims in
    let graded = c.in_ok-graded.ensures.graded in record {
      budget_is = rw is.budget c.requires;
      listed = omega arith;
      saids_are = record {
        each = is.each;
        sayable = λ i inside own. agreed_sayable c.in_ok-graded.graded.circuit c.in_ok-graded.graded.start.items
            graded.list i _ graded.few (is.are.justified.agrees i (record { listed = inside; own = own }));
      };
    }

pub returns : goal.returns
returns g c =
    let at = (goal.at.returns g c).In_ok-claims in
    let graded = c.in_ok-graded.ensures.graded in
    let of = graded.of_circuit in
    let is = verdicts_are g at in
    prepares (all_reads g at) _ _ _ (no_more c.args.files.now c.args.budget c.args.start.now) graded.netlist
    of.latches graded.widths c.or_no_memory.ensures (IfOk-weaker c.report_texts-made.result _ _ (λ made so. (
      refl,
      record {
        classes = of.classes;
        justified = is.are.justified;
        verdicts = true_verdicts _ _ _ of.circuit of.classes of.latches is.are.justified;
        decided = are_decided _ _ _ of.circuit of.latches is.are.justified;
      },
      (c.args.files.now.report, refl, record { body = _; total = _; so = so; acts_are = refl }),
    )) (rw is.budget at c.report_texts-made.ensures))
