use Rattle.std.proofs.Common.{arith, ◌<◌, length}
use Rattle.ht_cubes.proofs.PieceLaws.{targets_on, some_on}
use Rattle.ht_cubes.proofs.targets.push_targets.Goals as goal

pub targets-preserved : goal.targets-preserved
targets-preserved c =
    let e = c.len-i-end.ensures in
    let inside : c.targets.i < length c.args.targets.now = omega (arith, e, c.targets-test.true) in
    record {
      rows = targets_on c.args.first c.args.targets.now c.targets.i c.args.rows.now c.targets.rows c.push_needs.new.rows
          c.row.result.now inside c.row.ensures c.targets.invariant.rows c.in_ok-push_needs.ensures;
      some = some_on c.args.first c.args.targets.now c.targets.i c.targets.some.items c.push.new.self.items inside
          c.targets.invariant.some c.in_ok-push.ensures.items;
    }
