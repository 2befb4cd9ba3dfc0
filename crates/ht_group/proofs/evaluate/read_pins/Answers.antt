use Rattle.std.specs.Prelude.{set}
use Rattle.std.proofs.Common.{◌≡◌, ◌<◌, ◌∙◌, ℕ, length, get_or, ap, sym, arith, inl, inr}
use Rattle.std.proofs.lemmas.Bool.Decides.{eqb_tells}
use Rattle.std.proofs.lemmas.List.{length-set}
use Rattle.ht_net.specs.Circuit.Netlist.{no_net}
use Rattle.ht_group.specs.LaneRules.{lane_env}
use Rattle.ht_group.proofs.InLaneLaws.{lane_read, lane_written, lane_unwritten}
use Rattle.ht_group.proofs.evaluate.read_pins.Goals as goal

pub loop-i-preserved : goal.loop-i-preserved
loop-i-preserved c =
    let words = c.args.words.now in
    let pins = c.loop-i.pins in
    let w = c.index-words-index.result in
    let net : c.index.result ≡ (get_or c.args.args.now c.loop-i.i no_net).0 = c.index.ensures in
    let known = c.requires.known c.loop-i.i c.loop-i-test.true in
    let within : c.index.result < length c.args.words.now = omega (arith, net, known) in
    let inside : c.loop-i.i < length c.loop-i.pins =
    omega (arith, c.loop-i-test.true, c.requires.few, c.loop-i.invariant.room) in
    record {
      room = length-set pins c.loop-i.i w ∙ c.loop-i.invariant.room;
      read = λ n k below. elim (eqb_tells n c.loop-i.i) [
        | inl p ↦
            ap (lane_env k (set pins c.loop-i.i w)) p.1
            ∙ (lane_written pins c.loop-i.i w inside k
            ∙ (lane_read words c.index.result w within c.index-words-index.is k
            ∙ (ap (lane_env k words) net
            ∙ ap (λ (m : ℕ). lane_env k words (get_or c.args.args.now m no_net).0) (sym p.1))))
        | inr p ↦
            lane_unwritten pins c.loop-i.i w k n p.1 ∙ c.loop-i.invariant.read n k (omega (arith, below, p.1))
      ];
    }
