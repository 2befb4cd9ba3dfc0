use Rattle.std.proofs.Common.{[], ◌∷◌, rules}
use Rattle.ht_ports.specs.declared.ports.OutPort.TheVariants.{Report}
use Rattle.ht_app.proofs.Common.{Out, put}
use Rattle.ht_app.proofs.WritingLaws.{does_in_part, does_then}
use Rattle.ht_app.proofs.output.put_report.Goals as goal

pub returns-in_err-put : goal.returns-in_err-put
returns-in_err-put g c =
    let does = does_in_part (put Out c.args.said.now ∷ put Report c.args.last.now ∷ []) c.in_err-put.ensures.does in
    search (rules, does)

pub returns-in_err-put-2 : goal.returns-in_err-put-2
returns-in_err-put-2 g c =
    let does = does_then c.in_ok-put.ensures.does
    (does_in_part (put Report c.args.last.now ∷ []) c.in_err-put-2.ensures.does) in
    search (rules, does)

pub returns : goal.returns
returns g c = does_then c.in_ok-put.ensures.does (does_then c.in_ok-put-2.ensures.does c.put-3.ensures.does)
