use Rattle.std.proofs.Common.{◌≡◌, List, length, sym, subst, arith}
use Rattle.std.proofs.lemmas.List.{with_items_is}
use Rattle.ht_net.specs.Circuit.Netlist.{net_count}
use Rattle.ht_stems.specs.declared.net_loads.NetLoads.{NetLoads}
use Rattle.ht_stems.specs.LoadsOfNets.{AreLoads}
use Rattle.ht_stems.proofs.net_loads.find_loads.Goals as goal

pub add_all-requires-clause-entries : goal.add_all-requires-clause-entries
add_all-requires-clause-entries c = record {
  circuit = c.nets.ensures.circuit;
  count = omega (arith, c.deref_mut.ensures.len, c.in_ok-table.ensures.len, c.nets.ensures.count);
}

pub returns : goal.returns
returns c =
    let made : length c.add_all.new.table ≡ net_count c.args.circuit.now =
    omega (arith, c.add_all.auto.table, c.deref_mut.ensures.len, c.in_ok-table.ensures.len, c.nets.ensures.count) in
    let whole = with_items_is c.in_ok-table.table c.add_all.new.table (omega (arith, made)) in
    let P : List NetLoads → Type 0 = AreLoads c.args.circuit.now in
    let told : P c.add_all.new.table = record { count = made; each = λ x known. c.add_all.ensures x } in
    subst P (sym whole) told
