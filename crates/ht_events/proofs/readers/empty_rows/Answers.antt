use Rattle.std.proofs.Common.{◌+◌, ◌∷◌, ◌++◌, [], ℕ, List, sym, subst, arith}
use Rattle.ht_events.specs.declared.readers.NetRow.{NetRow}
use Rattle.ht_events.specs.NetRows.{AreEmptyRows}
use Rattle.ht_events.proofs.RowLaws.{one_more_row}
use Rattle.ht_events.proofs.readers.empty_rows.Goals as goal

pub loop-net-preserved : goal.loop-net-preserved
loop-net-preserved c =
    let circuit = c.args.circuit.now in
    let i = c.loop-net.invariant in
    let room = c.loop-net.room in
    let few = i.few in
    let small = c.loads.type_inv in
    record {
      rows = subst (λ (rows : List NetRow). AreEmptyRows circuit (c.loop-net.net + 1) rows (room + c.loads.result))
          (sym c.in_ok-push.ensures.items)
          (subst (λ (n : ℕ). AreEmptyRows circuit (c.loop-net.net + 1)
          (c.loop-net.rows.items ++ record { start = room; end = room } ∷ []) (room + n)) (sym c.loads.ensures)
          (one_more_row circuit c.loop-net.net c.loop-net.rows.items room i.rows));
      few = omega (arith, few, small);
    }
