use Rattle.std.proofs.lemmas.Result.{on_ok_weaker}
use Rattle.ht_entries.proofs.WriterLaws.{by_cubes_written}
use Rattle.ht_entries.proofs.by_cubes.push_by_cubes.Goals as goal

pub returns : goal.returns
returns c = on_ok_weaker c.push_steps.result
    (by_cubes_written c.args.text.now.items _ _ _ c.args.number c.args.cubes.now c.args.steps.now
    c.in_ok-push_entry_head.ensures c.in_ok-push_cubes.ensures)
    c.push_steps.ensures
