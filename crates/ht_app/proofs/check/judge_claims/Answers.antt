use Rattle.std.proofs.Common.{List, [], ℕ, Bool, Option, refl, sym, ap, rules}
use Rattle.std.specs.Prelude.{Some}
use Rattle.ht_app.proofs.Common.{Content, DeskView, HasReadTo, Numbered, ReportIsRead, check_basis}
use Rattle.ht_files.proofs.ShortNameLaws.{short_names}
use Rattle.ht_valid.proofs.DecidedLaws.{are_decided}
use Rattle.ht_valid.proofs.TruthLaws.{true_verdicts}
use Rattle.ht_inputs.specs.Grading.{IsGraded}
use Rattle.ht_inputs.proofs.ReadingLaws.{one_more, stops_there}
use Rattle.ht_app.proofs.CheckLaws.{job, no_more, said, vectors_read}
use Rattle.ht_app.proofs.PreparedLaws.{all_read}
use Rattle.ht_app.proofs.check.judge_claims.Given as given
use Rattle.ht_app.proofs.check.judge_claims.Goals as goal
use Rattle.ht_app.proofs.check.judge_claims.Goals.{In_ok-claims}

-- ---- what was read

-- what the files say once the report is read, with any entries
abbrev claimed : (g : given.Over) → In_ok-claims g → List (List Bool) → List Numbered → Content
claimed g c list = said c.args.graded.now list c.in_ok-claims.claims.budget c.in_ok-claims.claims.saids.items

report_is : (g : given.Over) (c : In_ok-claims g) {start : Option (List ℕ)} {first : DeskView}
    (is : IsGraded c.args.files.now start first (g.D.Desk.view c.args.desk.now) c.args.graded.now)
    (entries : List Numbered) → ReportIsRead
    (check_basis c.args.graded.now.circuit c.args.graded.now.listed.classes (claimed g c is.list entries))
    c.as_str-report.result.now (g.D.Desk.view c.args.desk.now)
report_is g c is entries = c.in_ok-claims.ensures.read (claimed g c is.list entries) is.first refl refl

report_read : (g : given.Over) (c : In_ok-claims g) {start : Option (List ℕ)} {first : DeskView}
    (is : IsGraded c.args.files.now start first (g.D.Desk.view c.args.desk.now) c.args.graded.now)
    (entries : List Numbered) → HasReadTo (job c.args.files.now start)
    (check_basis c.args.graded.now.circuit c.args.graded.now.listed.classes (claimed g c is.list entries)) 4 first
    (g.D.Desk.view c.read_report.new.desk)
report_read g c is entries = one_more (vectors_read is _ _ entries) refl (ap Some (sym c.as_str-report.ensures))
    c.in_ok-claims.ensures.frame is.netlist (report_is g c is entries).read

-- ---- why it stops

pub returns-in_err-claims : goal.returns-in_err-claims
returns-in_err-claims g c = λ start first is.
    let f = c.args.files.now in
    let names = short_names is.netlist.0 c.args.graded.now.circuit is.netlist.1.stands in
    let ends = stops_there (vectors_read is 0 [] []) refl (ap Some (sym c.as_str-report.ensures))
    c.in_err-claims.ensures.frame (λ is. tt) c.in_err-claims.field-0.0
    (c.in_err-claims.ensures.stops (job f start) (said c.args.graded.now is.list 0 [] []) refl is.first names) in
    record { made = search rules; stopped = search (rules, ends) }

pub read_proofs-requires-clause-each : goal.read_proofs-requires-clause-each
read_proofs-requires-clause-each g c =
    let at = (goal.at.read_proofs-requires-clause-each g c).In_ok-claims in
    let (list, first) = c.requires.detections in
    (c.in_ok-claims.ensures.read (claimed g at list []) first refl refl).each

pub returns-in_err-read_proofs : goal.returns-in_err-read_proofs
returns-in_err-read_proofs g c = λ start first is.
    let f = c.args.files.now in
    let at = (goal.at.returns-in_err-read_proofs g c).In_ok-claims in
    let ends = stops_there (report_read g at is []) refl (ap Some (sym c.as_str.ensures))
    c.in_err-read_proofs.ensures.frame (λ is. tt) c.in_err-read_proofs.field-0.0 (c.in_err-read_proofs.ensures.stops
    (job f start) (claimed g at is.list []) refl refl refl refl) in
    record { made = search rules; stopped = search (rules, ends) }

-- ---- all are valid

pub returns : goal.returns
returns g c = λ start first is.
    let at = (goal.at.returns g c).In_ok-claims in
    let of = is.of_circuit in
    let (entries, proofs) = c.in_ok-read_proofs.ensures.read (claimed g at is.list []) refl refl refl
    (report_is g at is []).agrees in record {
      made = all_read (one_more (report_read g at is entries) refl (ap Some (sym c.as_str.ensures))
          c.in_ok-read_proofs.ensures.frame is.netlist proofs.read) (no_more c.args.files.now start) is.netlist
          of.latches is.widths _ (
            record {
              classes = of.classes;
              justified = proofs.justified;
              verdicts = true_verdicts _ _ _ of.circuit of.classes of.latches proofs.justified;
              decided = are_decided _ _ _ of.circuit of.latches proofs.justified;
            },
            refl,
          );
      stopped = tt;
    }
