use Rattle.std.proofs.Common.{◌+◌, ◌-◌, [], length}
use Rattle.ht_net.proofs.MoreToldLaws.{detects_from_any}
use Rattle.ht_engine.proofs.work.sweep_open.Goals as goal

pub returns-in-Ok-Found-clause-holds : goal.returns-in-Ok-Found-clause-holds
returns-in-Ok-Found-clause-holds c =
    let list = c.in-Ok-Found.list in
    let h = rw c.in-Ok-Found.field-0-is at c.in-Ok-Found.ensures.holds in
    record {
      wide = h.vectors.wide;
      width = h.vectors.width;
      detects = λ start is before. (
        length before + (length list.list - 1),
        h.output,
        detects_from_any c.args.bases.now.circuit c.args.fault start before list.list (length list.list - 1) h.output is
            (h.detects []),
      );
    }
