use Rattle.std.proofs.Common.{◌∷◌, rules}
use Rattle.ht_ports.specs.declared.ports.OutPort.TheVariants.{Report, Tests}
use Rattle.ht_app.specs.Outputs.{report_acts}
use Rattle.ht_app.proofs.Common.{make, put}
use Rattle.ht_app.proofs.WritingLaws.{does_in_part, does_then}
use Rattle.ht_app.proofs.synchronize.write_texts.Goals as goal

pub returns-in_err-create : goal.returns-in_err-create
returns-in_err-create g c =
    let t = c.args.texts.now in
    let does = does_in_part (make Report c.args.out.now ∷ put Tests t.tests.items
    ∷ report_acts t.body.items t.said.items t.last.items) c.in_err-create.ensures.does in
    search (rules, does)

pub returns-in_err-create-2 : goal.returns-in_err-create-2
returns-in_err-create-2 g c =
    let t = c.args.texts.now in
    let does = does_then c.in_ok-create.ensures.does (does_in_part (put Tests t.tests.items
    ∷ report_acts t.body.items t.said.items t.last.items) c.in_err-create-2.ensures.does) in
    search (rules, does)

pub returns-in_err-put : goal.returns-in_err-put
returns-in_err-put g c =
    let t = c.args.texts.now in
    let does = does_then c.in_ok-create.ensures.does (does_then c.in_ok-create-2.ensures.does
    (does_in_part (report_acts t.body.items t.said.items t.last.items)
    (rw c.deref.ensures.value at c.in_err-put.ensures.does))) in
    search (rules, does)

pub returns : goal.returns
returns g c = does_then c.in_ok-create.ensures.does (does_then c.in_ok-create-2.ensures.does
    (does_then (rw c.deref.ensures.value at c.in_ok-put.ensures.does)
    (rw (c.deref-2.ensures.value, c.deref-3.ensures.value, c.deref-4.ensures.value) at c.put_report.ensures)))
