use Rattle.std.proofs.Common.{arith, ◌<◌, ◌∙◌, ◌++◌, [], length, ap}
use Rattle.std.specs.List.{All, filter}
use Rattle.ht_net.specs.declared.net.NetId.{NetId}
use Rattle.ht_net.specs.Circuit.Netlist.{no_net}
use Rattle.ht_cubes.specs.Rails.{IsKnownRail}
use Rattle.ht_cubes.specs.Cones.{marked}
use Rattle.ht_cubes.specs.Formula.{may_come, output_targets, next_target}
use Rattle.ht_cubes.proofs.PieceLaws.{filtered_more}
use Rattle.ht_cubes.proofs.TargetLaws.{read_row, row_holds, filtered_on, filtered_all}
use Rattle.ht_cubes.proofs.machines.Machines.all_targets.Goals as goal

pub push_next-requires-clause-known : goal.push_next-requires-clause-known
push_next-requires-clause-known c =
    row_holds (All (IsKnownRail c.args.self.now.circuit.now (marked c.args.self.now.cone.now))) c.args.cubes.now
    c.cubes.cube-index c.cube-item.result c.as_slice.result.now c.cubes-test.true c.cube-item.is c.as_slice.ensures
    c.requires.known

pub cubes-preserved : goal.cubes-preserved
cubes-preserved c =
    filtered_on may_come (next_target c.args.self.now.circuit.now c.args.self.now.fault
    (marked c.args.self.now.cone.now)) c.args.cubes.now c.cubes.cube-index [] c.as_slice.result.now c.cubes.rows
    c.push_next.new.rows c.cubes-test.true
    (read_row c.args.cubes.now c.cubes.cube-index c.cube-item.result c.as_slice.result.now c.cubes-test.true
    c.cube-item.is c.as_slice.ensures) c.cubes.invariant c.in_ok-push_next.ensures

pub places-preserved : goal.places-preserved
places-preserved c =
    let e = c.outputs-o-end.ensures in
    let f = output_targets c.args.self.now.circuit.now c.args.self.now.fault (marked c.args.self.now.cone.now) in
    let inside : c.places.o < length c.args.self.now.circuit.now.outputs = omega (arith, e, c.places-test.true) in
    filtered_more may_come f c.cubes.rows c.places.rows c.push_output.new.rows c.args.self.now.circuit.now.outputs
    c.places.o no_net inside c.places.invariant
    (c.in_ok-push_output.ensures
    ∙ ap (λ (x : NetId). c.places.rows ++ filter may_come (f x)) c.output-output.ensures)

pub returns : goal.returns
returns c =
    let e = c.outputs-o-end.ensures in
    filtered_all may_come (next_target c.args.self.now.circuit.now c.args.self.now.fault
    (marked c.args.self.now.cone.now))
    (output_targets c.args.self.now.circuit.now c.args.self.now.fault (marked c.args.self.now.cone.now))
    c.args.cubes.now c.args.self.now.circuit.now.outputs c.cubes.cube-index c.places.o c.cubes.rows c.places.rows
    (omega (arith, c.cubes-test.false)) (omega (arith, e, c.places-test.false)) c.cubes.invariant c.places.invariant
