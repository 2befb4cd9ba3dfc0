use Rattle.std.proofs.Common.{◌∙◌, not, sym, ap}
use Rattle.std.specs.Prelude.{is_some}
use Rattle.ht_tree.proofs.DecidedLaws.{decides_value}
use Rattle.ht_exports.proofs.window.decide_frame.Goals as goal

pub decide-requires-clause-undecided : goal.decide-requires-clause-undecided
decide-requires-clause-undecided c =
    decides_value c.loop-i.window.decisions c.input_var-var.result ∙ (ap is_some (sym c.decided.ensures)
    ∙ (c.is_none.ensures ∙ ap not c.if-is_none.true))
