use Rattle.std.proofs.Common.{Some, ap, ◌∙◌}
use Rattle.ht_entries.proofs.PairsTextLaws.{begins_reading, takes_next, passes_next, parsed_set, no_parsed_set}
use Rattle.ht_entries.proofs.ParsedLaws.{empty_by, some_by}
use Rattle.ht_entries.proofs.by_sets.parse_set.Goals.{in-Some, in_default}
use Rattle.ht_entries.proofs.by_sets.parse_set.Goals as goal

pub loop-good-init : goal.loop-good-init
loop-good-init c = begins_reading c.args.text.now

pub loop-good-preserved : goal.loop-good-preserved
loop-good-preserved c = elim c.match-after_pair.branch [
  | in-Some w ↦ takes_next c.args.text.now c.loop-good.rest.now w.in-Some.after.now c.match-after_pair.rest.now
      c.loop-good.set c.match-after_pair.set _ c.loop-good.good-index _ c.loop-good-test.true c.loop-good.invariant
      w.in-Some.ensures (w.set-is ∙ ap Some w.with_pair.ensures) cc
  | in_default w ↦ passes_next c.args.text.now c.loop-good.rest.now c.match-after_pair.rest.now
      c.loop-good.set c.match-after_pair.set _ c.loop-good.good-index _ c.loop-good-test.true c.loop-good.invariant
      w.in_default.ensures w.set-is cc
]

pub returns-then-not-is_empty : goal.returns-then-not-is_empty
returns-then-not-is_empty c = no_parsed_set c.args.text.now c.loop-good.rest.now c.loop-good.set _
    c.loop-good.good-index c.loop-good-test.false c.loop-good.invariant
    (some_by c.loop-good.rest.now c.if-not-is_empty.ensures)

pub returns : goal.returns
returns c = parsed_set c.args.text.now c.loop-good.rest.now c.loop-good.set _ c.loop-good.good-index
    c.loop-good-test.false c.loop-good.invariant (empty_by c.loop-good.rest.now c.if-not-is_empty.ensures)
