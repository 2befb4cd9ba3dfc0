use Rattle.std.proofs.Common.{◌≡◌, rules}
use Rattle.ht_app.proofs.Common.{with_lf}
use Rattle.ht_texts.specs.Reports.{report_sums, total_line}
use Rattle.ht_app.proofs.ReportLaws.{whole_report}
use Rattle.ht_app.proofs.made.report_of.Goals as goal
use Rattle.ht_app.proofs.made.report_of.Goals.{In_ok-total}

total_is : (c : In_ok-total) → c.in_ok-total.total.items
    ≡ with_lf (total_line (report_sums c.args.listed.now.classes c.args.budget c.args.saids.now))
total_is c = search rules

pub returns-clause-report : goal.returns-clause-report
returns-clause-report c = whole_report c.args.circuit.now c.args.listed.now.classes c.args.budget c.args.saids.now _ _
    c.in_ok-body.ensures (total_is (goal.at.returns-clause-report c).In_ok-total)
