use Rattle.std.proofs.Common.{[], List, Option, rules, subst, sym}
use Rattle.ht_net.specs.declared.place.Place.{Place}
use Rattle.ht_inputs.specs.Grading.{HasDetections}
use Rattle.ht_inputs.proofs.Common.{AreFirstDetections, Content, StandsForReport, check_basis}
use Rattle.ht_inputs.proofs.ReportFileLaws.{report_ends, report_is_read, report_stops}
use Rattle.ht_inputs.proofs.report_file.read_report.Given as given
use Rattle.ht_inputs.proofs.report_file.read_report.Goals as goal
use Rattle.ht_inputs.proofs.report_file.read_report.Goals.{In_ok-judge}

-- the judge stands for the beginning of a report that agrees with the tests
start : (g : given.Over) (c : In_ok-judge g) (content : Content)
    → HasDetections c.args.graded.now content.start content.list
    → StandsForReport c.in_ok-judge.judge (check_basis c.args.graded.now.circuit c.args.graded.now.listed.classes
    content) []
start g c content first =
    let made = c.in_ok-judge.ensures in
    record {
      well_formed = c.requires.circuit;
      circuit = made.circuit;
      representatives = made.classes;
      judges = made.stands content.start content.list (subst (λ (l : List (Option Place)).
          AreFirstDetections c.args.graded.now.circuit c.args.graded.now.listed.classes content.start content.list l)
          (sym c.deref.ensures.value) first);
    }

pub returns-in_err-read_lines-clause-stops : goal.returns-in_err-read_lines-clause-stops
returns-in_err-read_lines-clause-stops g c = λ job content judged first names.
    let at = goal.at.returns-in_err-read_lines-clause-stops g c in
    let basis = check_basis c.args.graded.now.circuit c.args.graded.now.listed.classes content in
    let stops = report_stops job judged c.args.name.now basis c.requires.circuit
    (g.D.Desk.view c.args.desk.now) (g.D.Desk.view c.read_lines.new.desk) c.requires.classes names
    (c.in_err-read_lines.ensures.stops basis (start g at.In_ok-judge content first)) in
    search (rules, stops)

pub returns-in_err-claims-clause-stops : goal.returns-in_err-claims-clause-stops
returns-in_err-claims-clause-stops g c = λ job content judged first names.
    let at = goal.at.returns-in_err-claims-clause-stops g c in
    let basis = check_basis c.args.graded.now.circuit c.args.graded.now.listed.classes content in
    let read = c.in_ok-read_lines.ensures.stands basis (start g at.In_ok-judge content first) in
    let stops = report_ends job judged c.args.name.now basis c.requires.circuit
    (g.D.Desk.view c.args.desk.now) (g.D.Desk.view c.read_lines.new.desk) read
    c.in_err-claims.field-0.0 (c.in_err-claims.ensures.err content.start content.list read.lines read.stands.judges) in
    search (rules, stops)

pub returns-clause-read : goal.returns-clause-read
returns-clause-read g c = λ content first budget saids.
    let basis = check_basis c.args.graded.now.circuit c.args.graded.now.listed.classes content in
    let read = c.in_ok-read_lines.ensures.stands basis
    (start g (goal.at.returns-clause-read g c).In_ok-judge content first) in
    report_is_read c.read_lines.new.judge basis c.args.name.now (g.D.Desk.view c.args.desk.now) read
    c.in_ok-claims.claims.budget c.in_ok-claims.claims.saids.items budget saids
    (c.in_ok-claims.ensures.ok content.start content.list read.lines read.stands.judges)
