use Rattle.std.proofs.Common.{◌≡◌, ◌++◌}
use Rattle.ht_uninit.specs.UninitTexts.{hidden_texts}
use Rattle.ht_uninit.proofs.uninit_text.push_faults.Given as goal

abbrev pub invariant-loop-i : goal.invariant-loop-i
invariant-loop-i l = l.text.items ≡ l.fn.text.items ++ hidden_texts l.circuit l.classes l.answer.hidden l.i
