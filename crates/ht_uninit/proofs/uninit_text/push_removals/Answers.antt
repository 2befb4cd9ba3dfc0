use Rattle.std.proofs.Common.{◌<◌, length, arith}
use Rattle.ht_uninit.proofs.UninitTextLaws.{removal_more}
use Rattle.ht_uninit.proofs.uninit_text.push_removals.Goals as goal

pub loop-i-preserved : goal.loop-i-preserved
loop-i-preserved c =
    let test = c.loop-i-test.true in
    let count = c.removals-i-end.ensures in
    let l : c.loop-i.i < length c.args.answer.now.removed = omega (arith, test, count) in
    removal_more c.args.answer.now.removed c.loop-i.i c.removed.result.now _ _ _ l c.removed.ensures c.loop-i.invariant
    c.in_ok-push_removal.ensures
