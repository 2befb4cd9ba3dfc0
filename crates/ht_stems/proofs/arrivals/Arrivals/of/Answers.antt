use Rattle.std.proofs.Common.{◌≡◌, List, length, ap, arith}
use Rattle.std.proofs.lemmas.List.{with_items_is}
use Rattle.ht_tern.specs.declared.tern.Tern.{Tern}
use Rattle.ht_net.specs.Circuit.Netlist.{net_count}
use Rattle.ht_stems.specs.declared.net_ends.NetEnds.{NetEnds}
use Rattle.ht_stems.proofs.ViewLaws.{filled}
use Rattle.ht_stems.proofs.arrivals.Arrivals.of.Goals as goal

pub invariant_of-result : goal.invariant_of-result
invariant_of-result c =
    let vs = c.write_ends.new.values in
    let es = c.write_ends.new.ends in
    let ps = c.write_ends.new.pins in
    let good = ap (λ (l : List Tern). length l) c.copy_from_slice.ensures.items in
    let old = ap (λ (l : List Tern). length l) c.deref_mut.ensures.value in
    let same = ap (λ (l : List Tern). length l) c.write_ends.ensures.same in
    let table = ap (λ (l : List NetEnds). length l) c.deref_mut-3.ensures.value in
    let room = ap (λ (l : List Tern). length l) c.deref_mut-2.ensures.value in
    let many : length c.write_ends.new.values ≡ net_count c.args.circuit.now =
    omega (arith, good, old, same, c.requires) in
    let each : length c.write_ends.new.ends ≡ net_count c.args.circuit.now =
    omega (arith, table, c.write_ends.auto.ends, c.in_ok-ends.ensures.len, c.nets-nets.ensures.count) in
    let pins : length c.write_ends.new.pins ≡ 255 =
    omega (arith, room, c.write_ends.auto.pins, c.in_ok-pins.ensures.len) in
    filled _ c.deref_mut.result.now vs es ps c.nets-nets.ensures.circuit c.in_ok-loads.ensures
    c.write_ends.ensures.same
    (with_items_is c.copy_from_slice.new.self vs (omega (arith, old, same))) many
    (with_items_is c.in_ok-ends.ends es (omega (arith, table, c.write_ends.auto.ends))) each
    (with_items_is c.in_ok-pins.pins ps (omega (arith, room, c.write_ends.auto.pins))) pins c.write_ends.ensures.ends
