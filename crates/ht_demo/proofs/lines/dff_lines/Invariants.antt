use Rattle.std.proofs.Common.{◌≡◌}
use Rattle.ht_random.specs.Words.{after_words}
use Rattle.ht_demo.specs.DemoText.{demo_dff_lines}
use Rattle.ht_demo.proofs.lines.dff_lines.Given as goal

abbrev pub invariant-loop-dff : goal.invariant-loop-dff
invariant-loop-dff l = record {
  text : l.text.items ≡ demo_dff_lines l.size l.initial.words l.dff;
  words : l.words ≡ after_words l.dff l.initial.words;
}
