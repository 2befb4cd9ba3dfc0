use Rattle.std.proofs.Common.{◌≡◌}
use Rattle.ht_random.specs.Words.{after_words}
use Rattle.ht_demo.specs.Draws.{drawn_outputs}
use Rattle.ht_demo.proofs.outputs.draw_outputs.Given as goal

abbrev pub invariant-loop-draw : goal.invariant-loop-draw
invariant-loop-draw l = record {
  outputs : l.outputs.items ≡ drawn_outputs l.size l.initial.words l._draw;
  words : l.words ≡ after_words l._draw l.initial.words;
}
