use Rattle.std.proofs.Common.{◌↔◌, IfOk, IsTrue, subst}
use Rattle.ht_tree.specs.Record.SearchRecords.{IsSpentWalk}
use Rattle.ht_tree.specs.Window.Windows.{SearchWindow}
use Rattle.ht_check.proofs.abort_records.is_spent_from.Goals as goal

pub returns-in-Ok-clause-spent : goal.returns-in-Ok-clause-spent
returns-in-Ok-clause-spent c =
    subst (λ (w : SearchWindow). IfOk c.is_spent_walk.result
    (λ spent. IsTrue spent ↔ IsSpentWalk w c.args.budget c.args.tokens.now))
    c.in-Ok.ensures.window
    c.is_spent_walk.ensures.spent
