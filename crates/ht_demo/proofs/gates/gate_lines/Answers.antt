use Rattle.std.proofs.Common.{ℕ, ◌+◌, sym, ap, ◌∙◌}
use Rattle.rand_pcg.specs.Lcg.{Lcg}
use Rattle.ht_demo.specs.Counts.{first_gate}
use Rattle.ht_demo.specs.Draws.{after_gate, after_gates}
use Rattle.ht_demo.specs.DemoText.{drawn_gate_line}
use Rattle.ht_demo.proofs.RangeLaws.{one_line_more}
use Rattle.ht_demo.proofs.DrawLaws.{after_gates_more}
use Rattle.ht_demo.proofs.gates.gate_lines.Goals as goal

pub loop-gate-preserved : goal.loop-gate-preserved
loop-gate-preserved c =
    let size = c.args.size in
    let gate = c.loop-gate.gate in
    let before = c.loop-gate.invariant in
    record {
      text = one_line_more (λ k. drawn_gate_line size (first_gate size + k) (after_gates k c.args.words.now)) gate
          _ _ _ before.text c.in_ok-push_gate.ensures.text
          (ap (λ (first : ℕ). drawn_gate_line size (first + gate) c.loop-gate.words) c.first_gate-first.ensures
          ∙ ap (λ (g : Lcg). drawn_gate_line size (first_gate size + gate) g) before.words);
      words = c.in_ok-push_gate.ensures.after ∙ ap after_gate before.words
          ∙ sym (after_gates_more gate c.args.words.now);
    }
