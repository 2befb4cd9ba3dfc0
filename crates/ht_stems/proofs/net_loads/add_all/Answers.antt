use Rattle.std.proofs.Common.{arith}
use Rattle.ht_stems.proofs.CountLaws.{all_counted, entries_left}
use Rattle.ht_stems.proofs.net_loads.add_all.Goals as goal

pub add_latches-requires : goal.add_latches-requires
add_latches-requires c = entries_left c.requires.entries (omega (arith, c.add_gates.auto.table))

pub add_outputs-requires : goal.add_outputs-requires
add_outputs-requires c =
    entries_left c.requires.entries (omega (arith, c.add_gates.auto.table, c.add_latches.auto.table))

pub returns : goal.returns
returns c = all_counted c.args.circuit.now c.add_gates.new.table c.add_latches.new.table c.add_outputs.new.table
    c.add_gates.ensures c.add_latches.ensures c.add_outputs.ensures
