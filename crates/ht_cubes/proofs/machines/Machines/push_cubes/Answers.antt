use Rattle.std.proofs.Common.{◌++◌, ◌∷◌, [], List, ◌∙◌, ap}
use Rattle.std.specs.List.{All}
use Rattle.ht_cubes.specs.declared.rail.Rail.{Rail}
use Rattle.ht_cubes.specs.Rails.{IsKnownRail}
use Rattle.ht_cubes.specs.Cones.{marked}
use Rattle.ht_cubes.specs.Formula.{cube_clause}
use Rattle.ht_cubes.proofs.ListLaws.{mapped_more}
use Rattle.ht_cubes.proofs.TargetLaws.{read_row, row_holds}
use Rattle.ht_cubes.proofs.machines.Machines.push_cubes.Goals as goal

pub push_cube-requires-clause-known : goal.push_cube-requires-clause-known
push_cube-requires-clause-known c =
    row_holds (All (IsKnownRail c.args.self.now.circuit.now (marked c.args.self.now.cone.now))) c.args.cubes.now
    c.cubes.cube-index c.cube-item.result c.as_slice.result.now c.cubes-test.true c.cube-item.is c.as_slice.ensures
    c.requires.known

pub cubes-preserved : goal.cubes-preserved
cubes-preserved c =
    let f = cube_clause c.args.self.now.circuit.now (marked c.args.self.now.cone.now) in
    mapped_more f c.args.cubes.now c.cubes.cube-index [] c.args.rows.now c.cubes.rows c.push_cube.new.rows
    c.cubes-test.true c.cubes.invariant
    (c.in_ok-push_cube.ensures ∙ ap (λ (x : List Rail). c.cubes.rows ++ f x ∷ [])
    (read_row c.args.cubes.now c.cubes.cube-index c.cube-item.result c.as_slice.result.now c.cubes-test.true
    c.cube-item.is c.as_slice.ensures))
