use Rattle.std.proofs.lemmas.Result.{IfOk-weaker}
use Rattle.ht_records.proofs.AbortLaws.{passing_means}
use Rattle.ht_check.proofs.entries.entry_by_frames.Goals as goal

pub returns-clause-sound : goal.returns-clause-sound
returns-clause-sound c =
    IfOk-weaker c.passes.result _ _ (λ b h t. passing_means c.args.kept.now.circuit c.args.start.now c.args.fault
    c.args.budget c.args.entry.now c.circuit.ensures.valid c.requires.start (h.0 t)) c.passes.ensures.exact
