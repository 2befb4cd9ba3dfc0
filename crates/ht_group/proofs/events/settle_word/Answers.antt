use Rattle.std.proofs.Common.{arith}
use Rattle.ht_group.proofs.ChangeLaws.{run_on}
use Rattle.ht_group.proofs.EventLaws.{passed_on}
use Rattle.ht_group.proofs.events.settle_word.Goals as goal

pub loop-rank-preserved : goal.loop-rank-preserved
loop-rank-preserved c =
    let inv = c.loop-rank.invariant in
    let some = c.in-Some.ensures in
    let new = c.fire-evaluated.new.pending in
    let passed = passed_on c.args.circuit.now c.args.schedule.now 1 c.loop-rank.pending new c.loop-rank.from
    c.in-Some.rank c.loop-rank.evaluated c.fire-evaluated.result c.recompute_word-changed.result some.from some.within
    some.least c.fire-evaluated.ensures.marks c.fire-evaluated.ensures.steps
    (record { marks = inv.marks; done = inv.done; within = inv.within; steps = omega (arith, inv.steps) }) in
    let steps = passed.steps in
    record {
      ran = run_on c.args.circuit.now c.args.schedule.now c.requires.schedule c.loop-rank.pending new
          c.in-Some.rank c.net-net.result c.recompute_word-changed.result (omega (arith, some.within, inv.marks))
          c.net-net.ensures c.fire-evaluated.ensures.marks c.args.machines.now c.loop-rank.machines
          c.recompute_word-changed.new.machines inv.ran c.recompute_word-changed.ensures;
      marks = passed.marks;
      done = passed.done;
      within = passed.within;
      steps = omega (arith, steps);
    }
