use Rattle.std.proofs.Common.{arith}
use Rattle.ht_group.proofs.ChangeLaws.{first_run_on}
use Rattle.ht_group.proofs.EventLaws.{passed_on}
use Rattle.ht_group.proofs.events.settle_words.Goals as goal

pub loop-rank-preserved : goal.loop-rank-preserved
loop-rank-preserved c =
    let inv = c.loop-rank.invariant in
    let n = c.args.circuit.now in
    let s = c.args.schedule.now in
    let new = c.fire-evaluated.new.pending in
    let changed = c.recompute_words-changed.result in
    let ran = first_run_on n s c.requires.schedule c.loop-rank.pending new c.in-Some.rank c.net-net.result changed
    (omega (arith, c.in-Some.ensures.within, inv.marks)) c.net-net.ensures c.fire-evaluated.ensures.marks c.args.used
    c.args.words.now c.loop-rank.words c.recompute_words-changed.new.words inv.ran c.recompute_words-changed.ensures in
    let passed = passed_on n s c.args.used c.loop-rank.pending new c.loop-rank.from c.in-Some.rank
    c.loop-rank.evaluated c.fire-evaluated.result changed c.in-Some.ensures.from c.in-Some.ensures.within
    c.in-Some.ensures.least c.fire-evaluated.ensures.marks c.fire-evaluated.ensures.steps
    (record { marks = inv.marks; done = inv.done; within = inv.within; steps = inv.steps }) in
    record {
      ran = ran;
      marks = passed.marks;
      done = passed.done;
      within = passed.within;
      steps = passed.steps;
    }
