use Rattle.std.proofs.Common.{◌≡◌, ◌++◌}
use Rattle.ht_uninit.specs.UninitTexts.{held_texts}
use Rattle.ht_uninit.proofs.uninit_text.push_held.Given as goal

abbrev pub invariant-loop-j : goal.invariant-loop-j
invariant-loop-j l = l.text.items ≡ l.fn.text.items ++ held_texts l.answer.walks l.j
