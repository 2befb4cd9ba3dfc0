use Rattle.std.specs.List.{Contains}
use Rattle.std.proofs.Common.{◌≡◌, ℕ, List, [], get_or, sym, arith, subst}
use Rattle.ht_net.specs.Circuit.Netlist.{net_count}
use Rattle.ht_events.specs.Schedules.{AreGateRanks}
use Rattle.ht_events.proofs.ItemLaws.{reads_known}
use Rattle.ht_events.proofs.ReaderLaws.{HasRankRows, row_more, readers_are}
use Rattle.ht_events.proofs.rank_readers.readers.Goals as goal

pub gate_ranks-requires-clause-known : goal.gate_ranks-requires-clause-known
gate_ranks-requires-clause-known c = λ l there. reads_known c.args.circuit.now l c.loop-net.net
    (c.in_ok-table.ensures.sound c.loop-net.net l (subst (λ (r : List ℕ). Contains r l) c.row.ensures there))

pub loop-net-preserved : goal.loop-net-preserved
loop-net-preserved c =
    let n = c.args.circuit.now in
    let ranks = c.args.ranks.now in
    let gates = subst (λ (items : List ℕ). AreGateRanks n ranks items c.in_ok-row.row.items) c.row.ensures
    c.in_ok-row.ensures in
    row_more n ranks c.in_ok-table.table c.loop-net.readers c.push.new.self c.loop-net.net c.deref.result.now
    c.in_ok-table.ensures (subst (AreGateRanks n ranks (get_or c.in_ok-table.table c.loop-net.net []))
    (sym c.deref.ensures.value) gates) c.in_ok-push.ensures.ok c.loop-net.invariant

pub returns : goal.returns
returns c =
    let n = c.args.circuit.now in
    let ranks = c.args.ranks.now in
    let all : c.loop-net.net ≡ net_count n = omega (
      arith,
      c.loop-net-test.false,
      c.loop-net.auto.net-end,
      c.nets-net-end.ensures.count,
    ) in
    readers_are n c.nets-net-end.ensures.circuit ranks c.loop-net.readers
    (subst (HasRankRows n ranks c.loop-net.readers) all c.loop-net.invariant) c.requires.small c.requires.rises
