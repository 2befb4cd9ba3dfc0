use Rattle.ht_cubes.specs.Cones.{marked}
use Rattle.ht_cubes.proofs.BuildLaws.{built}
use Rattle.ht_cubes.proofs.machines.Machines.build.Goals as goal

pub returns-clause-clauses : goal.returns-clause-clauses
returns-clause-clauses c = built c.args.self.now.circuit.now c.args.self.now.fault (marked c.args.self.now.cone.now)
    c.args.cubes.now c.nets-rails.result c.new-rows.result c.push_frame.new.rows c.push_cubes.new.rows
    c.push_targets.new.rows c.in_ok-clauses.clauses c.in_ok-targets.targets c.nets-rails.ensures.count
    c.new-rows.ensures c.in_ok-push_frame.ensures c.in_ok-push_cubes.ensures c.in_ok-targets.ensures
    c.in_ok-push_targets.ensures c.in_ok-clauses.ensures
