use Rattle.std.proofs.Common.{◌<◌, length, refl, arith}
use Rattle.ht_stems.specs.declared.net_loads.NetLoads.TheVariants.{OneDataPin}
use Rattle.ht_stems.proofs.CountLaws.{counted_all, counted_none, entries_left, place_counted}
use Rattle.ht_stems.proofs.net_loads.add_latches.Goals as goal

pub loop-dff-init : goal.loop-dff-init
loop-dff-init c = counted_none c.args.circuit.now c.args.table.now c.args.circuit.now.dffs

pub loop-dff-preserved : goal.loop-dff-preserved
loop-dff-preserved c =
    let inside : c.loop-dff.dff < length c.args.circuit.now.dffs = omega (arith, c.loop-dff-test.true, c.dffs-dff-end.ensures) in
    place_counted c.args.circuit.now c.args.table.now c.loop-dff.table c.add_load.new.table c.args.circuit.now.dffs
    c.loop-dff.dff c.dff_data.result (OneDataPin c.loop-dff.dff) (entries_left c.requires (omega (arith, c.loop-dff.auto.table)))
    c.add_load.ensures inside c.dff_data.ensures (c.requires.circuit.data_known c.loop-dff.dff inside)
    (λ at. (refl, inside, at)) c.loop-dff.invariant

pub returns : goal.returns
returns c = counted_all c.args.circuit.now c.args.table.now c.loop-dff.table c.args.circuit.now.dffs
    c.args.circuit.now.dffs c.loop-dff.dff (omega (arith, c.loop-dff-test.false, c.dffs-dff-end.ensures)) refl c.loop-dff.invariant
