use Rattle.std.proofs.Common.{◌≡◌, ◌++◌, drop, flat_map}
use Rattle.ht_uninit.specs.UninitTexts.{removal_text}
use Rattle.ht_uninit.proofs.uninit_text.push_removals.Given as goal

abbrev pub invariant-loop-i : goal.invariant-loop-i
invariant-loop-i l =
    l.text.items ++ flat_map removal_text (drop l.i l.answer.removed)
    ≡ l.fn.text.items ++ flat_map removal_text l.answer.removed
