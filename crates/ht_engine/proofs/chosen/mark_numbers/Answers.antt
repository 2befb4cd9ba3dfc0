use Rattle.std.proofs.lemmas.Grind.{common_steps, elements}
use Rattle.std.proofs.Common.{◌+◌, take, sym, subst, arith}
use Rattle.std.proofs.lemmas.List.{with_items_is}
use Rattle.ht_engine.specs.Marks.{MarksAny}
use Rattle.ht_engine.proofs.ChosenLaws.{marks_on}
use Rattle.ht_engine.proofs.chosen.mark_numbers.Goals as goal

pub loop-number-preserved : goal.loop-number-preserved
loop-number-preserved c =
    subst (MarksAny c.args.classes.now (take (c.loop-number.number-index + 1) c.args.numbers.now))
    (sym (with_items_is c.loop-number.marks c.mark.new.marks (omega arith)))
    (marks_on c.args.classes.now c.args.numbers.now c.loop-number.number-index _ c.loop-number.marks.items
    c.deref_mut.result.now c.mark.new.marks c.loop-number-test.true c.loop-number.invariant c.deref_mut.ensures.value
    c.mark.ensures.each c.mark.ensures.marks)

pub loop-number-init : goal.loop-number-init
loop-number-init c = grind (arith, common_steps)

pub returns : goal.returns
returns c = grind (arith, elements)
