use Rattle.std.proofs.Common.{◌++◌, ap, ◌∙◌}
use Rattle.ht_demo.specs.DemoText.{demo_output_lines}
use Rattle.ht_demo.proofs.RangeLaws.{ap2}
use Rattle.ht_demo.proofs.TextLaws.{text_of_parts}
use Rattle.ht_demo.proofs.netlist.netlist_text.Goals as goal

pub returns : goal.returns
returns c =
    let whole = text_of_parts c.args.size c.args.seed c.requires.some _ _ _ _ _ c.in_ok-drawn.ensures.gates
    c.in_ok-drawn.ensures.dffs c.in_ok-drawn.ensures.outputs
    (c.in_ok-outputs.ensures ∙ ap (demo_output_lines c.args.size) c.deref.ensures.value) c.in_ok-text.ensures in
    c.in_ok-push_parts.ensures
    ∙ ap2 (λ l r. l ++ r) (ap2 (λ l r. l ++ r) (ap (λ r. c.in_ok-text.text.items ++ r) c.deref-2.ensures.value)
    c.deref-3.ensures.value) c.deref-4.ensures.value
    ∙ whole
