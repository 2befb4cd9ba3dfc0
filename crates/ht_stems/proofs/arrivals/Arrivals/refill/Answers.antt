use Rattle.std.proofs.Common.{◌≡◌, List, length, ap, arith}
use Rattle.std.proofs.lemmas.List.{with_items_is}
use Rattle.ht_tern.specs.declared.tern.Tern.{Tern}
use Rattle.ht_net.specs.Circuit.Netlist.{net_count}
use Rattle.ht_stems.specs.declared.net_ends.NetEnds.{NetEnds}
use Rattle.ht_stems.specs.ArrivalsView.{ArrivalsView}
use Rattle.ht_stems.proofs.ViewLaws.{filled}
use Rattle.ht_stems.proofs.arrivals.Arrivals.refill.Goals as goal

pub invariant_of-self : goal.invariant_of-self
invariant_of-self c =
    let a = c.self.inside in
    let vs = c.write_ends.new.values in
    let es = c.write_ends.new.ends in
    let ps = c.write_ends.new.pins in
    let is = ap (λ (w : ArrivalsView). net_count w.circuit) c.self.view_is in
    let good = ap (λ (l : List Tern). length l) c.copy_from_slice.ensures.items in
    let old = ap (λ (l : List Tern). length l) c.deref_mut.ensures.value in
    let same = ap (λ (l : List Tern). length l) c.write_ends.ensures.same in
    let table = ap (λ (l : List NetEnds). length l) c.deref_mut-3.ensures.value in
    let room = ap (λ (l : List Tern). length l) c.deref_mut-2.ensures.value in
    let many : length c.write_ends.new.values ≡ net_count c.self.inside.circuit.now =
    omega (arith, is, good, old, same, c.requires) in
    let each : length c.write_ends.new.ends ≡ net_count c.self.inside.circuit.now =
    omega (arith, table, c.write_ends.auto.ends, c.self.invariant.end_count) in
    let pins : length c.write_ends.new.pins ≡ 255 =
    omega (arith, room, c.write_ends.auto.pins, c.self.invariant.room) in
    filled _ c.deref_mut.result.now vs es ps c.self.invariant.circuit c.self.invariant.loads c.write_ends.ensures.same
    (with_items_is c.copy_from_slice.new.self vs (omega (arith, old, same))) many
    (with_items_is a.ends es (omega (arith, table, c.write_ends.auto.ends))) each
    (with_items_is a.pins ps (omega (arith, room, c.write_ends.auto.pins))) pins c.write_ends.ensures.ends
