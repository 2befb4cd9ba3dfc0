use Rattle.std.proofs.Common.{subst, rules}
use Rattle.std.specs.Prelude.{Result}
use Rattle.ht_app.proofs.Common.{RunError, file_acts}
use Rattle.ht_app.specs.Steps.{Prepares}
use Rattle.ht_app.specs.declared.made.Made.{Made}
use Rattle.ht_app.proofs.EndLaws.{ends_by, ends_unread, file_permitted}
use Rattle.ht_app.proofs.output.finish.Goals as goal

pub returns-in_err-made : goal.returns-in_err-made
returns-in_err-made g c = λ job first named says prepares.
    let ends = ends_unread (subst (λ (r : Result Made RunError). Prepares job (λ (m : Made).
    file_acts c.args.port c.args.name.now m.body.items m.total.items) r first (g.D.Desk.view c.args.desk.now))
    c.in_err-made.was prepares).stopped in
    search (rules, ends)

pub returns : goal.returns
returns g c = λ job first named says prepares.
    ends_by (subst (λ (r : Result Made RunError). Prepares job (λ (m : Made).
    file_acts c.args.port c.args.name.now m.body.items m.total.items) r first (g.D.Desk.view c.args.desk.now))
    c.in_ok-made.was prepares).made (file_permitted job c.args.port c.args.name.now _ _ named says)
    (rw c.as_str.ensures at c.write_file.ensures)
