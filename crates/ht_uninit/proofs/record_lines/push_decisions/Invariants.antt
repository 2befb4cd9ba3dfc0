use Rattle.std.proofs.Common.{◌≡◌, ◌++◌, drop, map}
use Rattle.ht_texts.specs.Lines.{with_lfs}
use Rattle.ht_uninit.specs.UninitTexts.{decision_text, decisions_text}
use Rattle.ht_uninit.proofs.record_lines.push_decisions.Given as goal

abbrev pub invariant-loop-set : goal.invariant-loop-set
invariant-loop-set l =
    l.text.items ++ with_lfs (map decision_text (drop l.set-index l.fn.sets))
    ≡ l.fn.text.items ++ decisions_text l.word l.index l.fn.sets
