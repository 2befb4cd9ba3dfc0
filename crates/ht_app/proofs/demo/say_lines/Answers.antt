use Rattle.std.proofs.Common.{rules}
use Rattle.ht_app.proofs.DemoLaws.{ends_by_total, ends_in_head}
use Rattle.ht_app.proofs.WritingLaws.{runs_out_last}
use Rattle.ht_app.proofs.demo.say_lines.Goals as goal

pub returns-in_err-put : goal.returns-in_err-put
returns-in_err-put g c = λ size of_size says.
    let ends = ends_in_head size c.args.seed says _ (rw c.deref.ensures.value at c.in_err-put.ensures.does.tries) in
    search (rules, ends)

pub returns-in_err-total : goal.returns-in_err-total
returns-in_err-total g c = λ size of_size says.
    let ends = ends_in_head size c.args.seed says _
    (runs_out_last (Unit {0}) (rw c.deref.ensures.value at c.in_ok-put.ensures.does.tries)) in
    search (rules, ends)

pub returns : goal.returns
returns g c = λ size of_size says. ends_by_total size c.args.seed says c.put-2.result
    (rw of_size at c.in_ok-total.ensures) (rw c.deref.ensures.value at c.in_ok-put.ensures.does)
    (rw c.deref-2.ensures.value at c.put-2.ensures.does)
