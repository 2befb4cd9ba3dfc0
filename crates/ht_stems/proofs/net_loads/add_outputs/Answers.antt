use Rattle.std.proofs.Common.{◌<◌, length, refl, arith}
use Rattle.ht_stems.specs.declared.net_loads.NetLoads.TheVariants.{OneOutput}
use Rattle.ht_stems.proofs.CountLaws.{counted_all, counted_none, entries_left, place_counted}
use Rattle.ht_stems.proofs.net_loads.add_outputs.Goals as goal

pub loop-output-init : goal.loop-output-init
loop-output-init c = counted_none c.args.circuit.now c.args.table.now c.args.circuit.now.outputs

pub loop-output-preserved : goal.loop-output-preserved
loop-output-preserved c =
    let inside : c.loop-output.output < length c.args.circuit.now.outputs = omega (arith, c.loop-output-test.true, c.outputs-output-end.ensures) in
    place_counted c.args.circuit.now c.args.table.now c.loop-output.table c.add_load.new.table c.args.circuit.now.outputs
    c.loop-output.output c.output.result (OneOutput c.loop-output.output) (entries_left c.requires (omega (arith, c.loop-output.auto.table)))
    c.add_load.ensures inside c.output.ensures (c.requires.circuit.outputs_known c.loop-output.output inside)
    (λ at. (refl, inside, at)) c.loop-output.invariant

pub returns : goal.returns
returns c = counted_all c.args.circuit.now c.args.table.now c.loop-output.table c.args.circuit.now.outputs
    c.args.circuit.now.outputs c.loop-output.output (omega (arith, c.loop-output-test.false, c.outputs-output-end.ensures)) refl c.loop-output.invariant
