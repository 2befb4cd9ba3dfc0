use Rattle.std.proofs.Common.{◌≡◌, ◌<◌, ◌+◌, length, get_or, sym, ap, ◌∙◌, arith}
use Rattle.std.specs.List.{count_by, range_with_len}
use Rattle.std.proofs.lemmas.List.{take_all}
use Rattle.std.proofs.lemmas.List.FromFn.{length-range_with_len, get_or-range_with_len}
use Rattle.std.proofs.lemmas.List.Sums.{count_by_more_no, count_by_more_yes}
use Rattle.ht_events.specs.Pending.{pends, core_items}
use Rattle.ht_events.proofs.event_core.Core.pending.Goals.{then-is_pending, else-is_pending}
use Rattle.ht_events.proofs.event_core.Core.pending.Goals as goal

pub loop-item-preserved : goal.loop-item-preserved
loop-item-preserved c =
    let s = c.args.self.now in
    let k = c.loop-item.item in
    let all = range_with_len 0 (core_items s) in
    let few = c.loop-item.invariant.few in
    let same = c.loop-item.invariant.same in
    let t = c.loop-item-test.true in
    let n = c.items-item-end.ensures in
    let less : k < core_items s = omega (arith, t, n) in
    let long = length-range_with_len 0 (core_items s) in
    let inside : k < length all = omega (arith, long, less) in
    let at : get_or all k 0 ≡ k = get_or-range_with_len 0 (core_items s) k 0 less ∙ (let e : 0 + k ≡ k =
    omega arith in e)
    in
    let is = ap (pends s) at in
    elim c.if-is_pending.branch [
      | then-is_pending w ↦
          let e = w.count-is in
          let m = count_by_more_yes (pends s) all k 0 inside (is ∙ (sym c.is_pending.ensures ∙ w.if-is_pending.true)) in
          record { few = omega (arith, e, few); same = omega (arith, e, same, m) }
      | else-is_pending w ↦
          let e = w.count-is in
          let m = count_by_more_no (pends s) all k 0 inside (is ∙ (sym c.is_pending.ensures ∙ w.if-is_pending.false)) in
          record { few = omega (arith, e, few); same = omega (arith, e, same, m) }
    ]

pub returns : goal.returns
returns c =
    let s = c.args.self.now in
    let n = c.items-item-end.ensures in
    let t = c.loop-item-test.false in
    let long = length-range_with_len 0 (core_items s) in
    c.loop-item.invariant.same ∙ ap (count_by (pends s))
    (take_all c.loop-item.item (range_with_len 0 (core_items s)) (omega (arith, long, t, n)))
