use Rattle.std.proofs.Common.{rules}
use Rattle.ht_app.specs.Outputs.{report_acts}
use Rattle.ht_app.proofs.WritingLaws.{does_in_part, does_then}
use Rattle.ht_app.proofs.output.write_report.Goals as goal

pub returns-in_err-create : goal.returns-in_err-create
returns-in_err-create g c =
    let does = does_in_part (report_acts c.args.body.now c.args.said.now c.args.last.now)
    c.in_err-create.ensures.does in
    search (rules, does)

pub returns : goal.returns
returns g c = does_then c.in_ok-create.ensures.does c.put_report.ensures
