use Rattle.std.proofs.Common.{◌≡◌}
use Rattle.ht_demo.specs.Draws.{after_gates}
use Rattle.ht_demo.specs.DemoText.{demo_gate_lines}
use Rattle.ht_demo.proofs.gates.gate_lines.Given as goal

abbrev pub invariant-loop-gate : goal.invariant-loop-gate
invariant-loop-gate l = record {
  text : l.text.items ≡ demo_gate_lines l.size l.initial.words l.gate;
  words : l.words ≡ after_gates l.gate l.initial.words;
}
