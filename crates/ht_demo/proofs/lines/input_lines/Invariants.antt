use Rattle.std.proofs.Common.{◌≡◌}
use Rattle.ht_demo.specs.DemoText.{demo_input_lines}
use Rattle.ht_demo.proofs.lines.input_lines.Given as goal

abbrev pub invariant-loop-input : goal.invariant-loop-input
invariant-loop-input l = l.text.items ≡ demo_input_lines l.size l.input
