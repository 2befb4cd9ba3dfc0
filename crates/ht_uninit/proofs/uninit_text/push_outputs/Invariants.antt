use Rattle.std.proofs.Common.{◌≡◌, ◌++◌}
use Rattle.ht_uninit.specs.UninitTexts.{searched_texts}
use Rattle.ht_uninit.proofs.uninit_text.push_outputs.Given as goal

abbrev pub invariant-loop-o : goal.invariant-loop-o
invariant-loop-o l = l.text.items ≡ l.fn.text.items ++ searched_texts l.answer.outs l.o
