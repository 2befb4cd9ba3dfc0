use Rattle.std.proofs.Common.{◌∷◌, rules}
use Rattle.ht_app.proofs.Common.{Out, ending, put}
use Rattle.ht_app.proofs.WritingLaws.{does_in_part, does_then}
use Rattle.ht_app.proofs.output.write_file.Goals as goal

pub returns-in_err-begin_file : goal.returns-in_err-begin_file
returns-in_err-begin_file g c =
    let total = c.args.made.now.total.items in
    let does = does_in_part (put Out total ∷ ending c.args.port total)
    (rw c.deref.ensures.value at c.in_err-begin_file.ensures.does) in
    search (rules, does)

pub returns-in_err-put : goal.returns-in_err-put
returns-in_err-put g c =
    let does = does_then (rw c.deref.ensures.value at c.in_ok-begin_file.ensures.does)
    (does_in_part (ending c.args.port c.args.made.now.total.items)
    (rw c.deref-2.ensures.value at c.in_err-put.ensures.does)) in
    search (rules, does)

pub returns : goal.returns
returns g c = does_then (rw c.deref.ensures.value at c.in_ok-begin_file.ensures.does)
    (does_then (rw c.deref-2.ensures.value at c.in_ok-put.ensures.does)
    (rw c.deref-3.ensures.value at c.end_file.ensures))
