use Rattle.std.proofs.Common.{◌≡◌, ◌<◌, ◌+◌, ℕ, List, length, get_or, sym, ap, arith, subst}
use Rattle.ht_net.specs.declared.net.NetId.{NetId}
use Rattle.ht_net.specs.Circuit.Netlist.{no_net, arg_at, gate_at}
use Rattle.ht_events.specs.declared.readers.NetRow.{NetRow}
use Rattle.ht_events.specs.NetRows.{row_of}
use Rattle.ht_events.proofs.RowLaws.{HasReader, rows_with, items_with, few_still}
use Rattle.ht_events.proofs.TableLaws.{HasDffs, HasPins, IsPartTable, all_dffs, no_pins, all_pins, dff_row, dff_room, with_dff, pin_row, pin_room, with_pin, table_is}
use Rattle.ht_events.proofs.readers.Readers.new.Goals as goal

pub loop-j-init : goal.loop-j-init
loop-j-init c =
    let e = c.in_ok-rows.ensures.rows in
    let f = c.in_ok-rows.ensures.few in
    let long = c.in_ok-items.ensures.len in
    record {
      few = omega (arith, f, long);
      rows = record {
        count = e.count;
        room = record {
          rises = λ x. let h = e.empty x in omega (arith, h);
          apart = λ x y before known. let h = e.apart x y before known in omega (arith, h);
          within = λ x known. let h = e.within x known in omega (arith, h, long);
        };
        sound = λ x k r. let h = e.empty x in let f = r.from_on in let b = r.below in absurd (omega (arith, h, f, b));
        dffs = λ x k less d. absurd (omega (arith, less));
      };
    }

-- the flip-flop is there, and reads the net
dff_known : (c : goal.After-dff_data) → c.loop-j.j < length c.args.circuit.now.dffs
dff_known c = let t = c.loop-j-test.true in let e = c.dffs-dffs.ensures in omega (arith, t, e)

dff_is : (c : goal.After-dff_data) → (get_or c.args.circuit.now.dffs c.loop-j.j no_net).0 ≡ c.dff_data.result.0
dff_is c = ap (λ (x : NetId). x.0) (sym c.dff_data.ensures)

pub add-requires-clause-net : goal.add-requires-clause-net
add-requires-clause-net c = dff_row c.args.circuit.now c.empty_rows.ensures.circuit c.loop-j.rows.items
    c.loop-j.items.items c.loop-j.j c.dff_data.result.0 (dff_known c) (dff_is c) c.loop-j.invariant.rows

pub add-requires-clause-room : goal.add-requires-clause-room
add-requires-clause-room c = dff_room c.args.circuit.now c.empty_rows.ensures.circuit c.loop-j.rows.items
    c.loop-j.items.items c.loop-j.j c.dff_data.result.0 (dff_known c) (dff_is c) c.loop-j.invariant.rows

pub loop-j-preserved : goal.loop-j-preserved
loop-j-preserved c =
    let a = c.add.ensures in
    let circuit = c.args.circuit.now in
    let rows = c.loop-j.rows.items in
    let items = c.loop-j.items.items in
    let n = c.dff_data.result.0 in
    let t = c.loop-j-test.true in
    let e = c.dffs-dffs.ensures in
    record {
      few = few_still items (row_of rows n).end c.loop-j.j c.add.new.items.items a.items c.loop-j.invariant.few;
      rows = subst (λ (r : List NetRow). HasDffs circuit r c.add.new.items.items (c.loop-j.j + 1)) (sym a.rows)
          (subst (λ (s : List ℕ). HasDffs circuit (rows_with rows n) s (c.loop-j.j + 1)) (sym a.items)
          (with_dff circuit c.empty_rows.ensures.circuit rows items c.loop-j.j n (omega (arith, t, e))
          (ap (λ (x : NetId). x.0) (sym c.dff_data.ensures)) c.loop-j.invariant.rows));
    }

pub loop-g-init : goal.loop-g-init
loop-g-init c =
    let t = c.loop-j-test.false in
    let e = c.dffs-dffs.ensures in
    record {
      few = c.loop-j.invariant.few;
      rows = all_dffs c.args.circuit.now c.loop-j.rows.items c.loop-j.items.items c.loop-j.j (omega (arith, t, e))
          c.loop-j.invariant.rows;
    }

pub loop-arg-init : goal.loop-arg-init
loop-arg-init c =
    let t = c.loop-g-test.true in
    let e = c.gates-g-end.ensures in
    record {
      few = c.loop-g.invariant.few;
      rows = no_pins c.args.circuit.now c.loop-g.rows.items c.loop-g.items.items c.loop-g.g (omega (arith, t, e))
          c.loop-g.invariant.rows;
    }

-- the pin is there, and reads the net
pin_known : (c : goal.After-add-arg-1) → c.loop-g.g < length c.args.circuit.now.gates
pin_known c = let t = c.loop-g-test.true in let e = c.gates-g-end.ensures in omega (arith, t, e)

pin_inside : (c : goal.After-add-arg-1) → c.loop-arg.arg-index < length (gate_at c.args.circuit.now c.loop-g.g).args
pin_inside c =
    let t = c.loop-arg-test.true in
    let e = ap (λ (l : List NetId). length l) c.gate_args-arg-items.ensures.args in
    omega (arith, t, e)

pin_is : (c : goal.After-add-arg-1) → arg_at c.args.circuit.now c.loop-g.g c.loop-arg.arg-index
    ≡ (get_or c.gate_args-arg-items.result.now c.loop-arg.arg-index no_net).0
pin_is c = ap (λ (l : List NetId). (get_or l c.loop-arg.arg-index no_net).0) (sym c.gate_args-arg-items.ensures.args)

pub add-requires-in-loop-arg-clause-net : goal.add-requires-in-loop-arg-clause-net
add-requires-in-loop-arg-clause-net c = pin_row c.args.circuit.now c.empty_rows.ensures.circuit c.loop-arg.rows.items
    c.loop-arg.items.items c.loop-g.g c.loop-arg.arg-index _ (pin_known c) (pin_inside c) (pin_is c)
    c.loop-arg.invariant.rows

pub add-requires-in-loop-arg-clause-room : goal.add-requires-in-loop-arg-clause-room
add-requires-in-loop-arg-clause-room c = pin_room c.args.circuit.now c.empty_rows.ensures.circuit c.loop-arg.rows.items
    c.loop-arg.items.items c.loop-g.g c.loop-arg.arg-index _ (pin_known c) (pin_inside c) (pin_is c)
    c.loop-arg.invariant.rows

pub loop-arg-preserved : goal.loop-arg-preserved
loop-arg-preserved c =
    let a = c.add-in-loop-arg.ensures in
    let circuit = c.args.circuit.now in
    let rows = c.loop-arg.rows.items in
    let items = c.loop-arg.items.items in
    let g = c.loop-g.g in
    let i = c.loop-arg.arg-index in
    let local = c.dffs-dffs.result + g in
    let net = get_or c.gate_args-arg-items.result.now i no_net in
    let t = c.loop-arg-test.true in
    let tg = c.loop-g-test.true in
    let eg = c.gates-g-end.ensures in
    let args = c.gate_args-arg-items.ensures.args in
    let all = ap (λ (l : List NetId). length l) args in
    record {
      few = few_still items (row_of rows net.0).end local c.add-in-loop-arg.new.items.items a.items
          c.loop-arg.invariant.few;
      rows = subst (λ (r : List NetRow). HasPins circuit r c.add-in-loop-arg.new.items.items g (i + 1)) (sym a.rows)
          (subst (λ (s : List ℕ). HasPins circuit (rows_with rows net.0) s g (i + 1)) (sym a.items)
          (subst (λ (m : ℕ). HasPins circuit (rows_with rows net.0) (items_with rows items net.0 (m + g)) g (i + 1))
          (sym c.dffs-dffs.ensures)
          (with_pin circuit c.empty_rows.ensures.circuit rows items g i net.0 (omega (arith, tg, eg))
          (omega (arith, t, all)) (ap (λ (l : List NetId). (get_or l i no_net).0) (sym args))
          c.loop-arg.invariant.rows)));
    }

pub loop-g-preserved : goal.loop-g-preserved
loop-g-preserved c =
    let done = c.loop-arg-test.false in
    let end = c.loop-arg.auto.arg-index-end in
    let all = ap (λ (l : List NetId). length l) c.gate_args-arg-items.ensures.args in
    record {
      few = c.loop-arg.invariant.few;
      rows = all_pins c.args.circuit.now c.loop-arg.rows.items c.loop-arg.items.items c.loop-g.g
          c.loop-arg.arg-index (omega (arith, done, end, all)) c.loop-arg.invariant.rows;
    }

pub invariant_of-result : goal.invariant_of-result
invariant_of-result c = λ x known.
    let h = c.loop-g.invariant.rows.room in
    (h.rises x, (let w = h.within x known in omega (arith, w)))

pub returns : goal.returns
returns c =
    let h = c.loop-g.invariant.rows in
    let t = c.loop-g-test.false in
    let a = c.loop-g.auto.g-end in
    let e = c.gates-g-end.ensures in
    let n = c.args.circuit.now in
    let rows = c.loop-g.rows.items in
    let items = c.loop-g.items.items in
    let all : c.loop-g.g ≡ length n.gates = omega (arith, t, a, e) in
    table_is rows items (λ x known. (h.room.rises x, (let w = h.room.within x known in omega (arith, w)))) n h.count
    (subst (λ (k : ℕ). IsPartTable n (HasReader rows items) k) all h.table)
