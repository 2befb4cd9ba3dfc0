use Rattle.std.proofs.Common.{sym, ◌∙◌}
use Rattle.ht_stems.proofs.PassLaws.{put_back}
use Rattle.ht_stems.proofs.pass.forced_gate_output.Goals as goal

pub returns-clause-same : goal.returns-clause-same
returns-clause-same c = put_back c.args.values.now c.index.result c.index-2.result c.index-3.result c.args.value
    (c.index-2.ensures ∙ sym c.index.ensures) (c.index-3.ensures ∙ sym c.index.ensures)
