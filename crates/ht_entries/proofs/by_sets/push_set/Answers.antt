use Rattle.std.proofs.Common.{◌++◌, ap, sym, ◌∙◌}
use Rattle.std.proofs.lemmas.Bool.{true≢false}
use Rattle.ht_entries.proofs.PairsTextLaws.{all_written, writes_next, writes_none_next, wrote_all}
use Rattle.ht_entries.proofs.by_sets.push_set.Goals.{then-has+in_ok-push_pair, else-has}
use Rattle.ht_entries.proofs.by_sets.push_set.Goals as goal

pub loop-good-init : goal.loop-good-init
loop-good-init c =
    ap (λ t. c.args.text.now.items ++ t) (all_written c.args.set c.is_listed_in_order.ensures)

pub loop-good-preserved : goal.loop-good-preserved
loop-good-preserved c = elim c.if-has.branch [
  | then-has+in_ok-push_pair w ↦ writes_next c.args.set _ c.loop-good.good-index _ c.loop-good.text.items
      c.if-has.text.items _ c.loop-good-test.true (c.has.ensures.0 w.if-has.true) c.loop-good.invariant
      (rw w.text-is w.in_ok-push_pair.ensures)
  | else-has w ↦ writes_none_next c.args.set _ c.loop-good.good-index _ c.loop-good.text.items
      c.if-has.text.items _ c.loop-good-test.true
      (λ h. true≢false (sym (c.has.ensures.1 h) ∙ w.if-has.false)) c.loop-good.invariant (rw w.text-is)
]

pub returns : goal.returns
returns c = wrote_all c.args.set _ c.loop-good.good-index c.loop-good.text.items _ c.loop-good-test.false
    c.loop-good.invariant
