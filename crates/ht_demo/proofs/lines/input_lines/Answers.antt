use Rattle.std.proofs.Common.{refl}
use Rattle.ht_demo.specs.DemoText.{demo_input_line}
use Rattle.ht_demo.proofs.RangeLaws.{one_line_more}
use Rattle.ht_demo.proofs.lines.input_lines.Goals as goal

pub loop-input-preserved : goal.loop-input-preserved
loop-input-preserved c =
    one_line_more (demo_input_line c.args.size) c.loop-input.input _ _ _ c.loop-input.invariant
    c.in_ok-push_input.ensures refl
