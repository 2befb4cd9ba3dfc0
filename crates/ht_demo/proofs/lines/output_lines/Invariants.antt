use Rattle.std.proofs.Common.{◌≡◌, take}
use Rattle.ht_demo.specs.DemoText.{demo_output_lines}
use Rattle.ht_demo.proofs.lines.output_lines.Given as goal

abbrev pub invariant-loop-output : goal.invariant-loop-output
invariant-loop-output l = l.text.items ≡ demo_output_lines l.size (take l.output-index l.outputs)
