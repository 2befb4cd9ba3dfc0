use Rattle.std.proofs.Common.{take}
use Rattle.ht_engine.specs.Marks.{MarksAny}
use Rattle.ht_engine.proofs.chosen.mark_numbers.Given as goal

-- the marks are those of the numbers so far
abbrev pub invariant-loop-number : goal.invariant-loop-number
invariant-loop-number l = MarksAny l.classes (take l.number-index l.numbers) l.marks.items
