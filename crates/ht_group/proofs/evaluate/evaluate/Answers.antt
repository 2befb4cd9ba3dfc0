use Rattle.std.proofs.Common.{◌≡◌, ◌<◌, ◌≤◌, ◌+◌, ◌-◌, ◌∙◌, ap, sym, arith, ℕ}
use Rattle.ht_net.specs.Circuit.Netlist.{first_gate_net}
use Rattle.ht_net.specs.Frames.Frame.{gate_output}
use Rattle.ht_group.specs.LaneRules.{rules_at, in_lane, lane_env}
use Rattle.ht_group.proofs.DriveLaws.{drive_low, drive_gate}
use Rattle.ht_group.proofs.InLaneLaws.{lane_read}
use Rattle.ht_group.proofs.evaluate.evaluate.Goals as goal

pub returns-then-net-first : goal.returns-then-net-first
returns-then-net-first c k below =
    let n = c.args.circuit.now in
    let r = rules_at c.args.lines.now.faults.items k in
    let sources = c.args.sources.now in
    let low : c.args.net < first_gate_net n = omega (arith, c.if-net-first.true, c.inputs.ensures, c.dffs.ensures) in
    let source = lane_read sources c.args.net c.index-sources-net.result (omega (arith, low, c.requires.sources))
    c.index-sources-net.is k in
    c.stem.ensures k below ∙ ap (r.stem c.args.net)
    (source ∙ sym (drive_low n r (in_lane k sources) (lane_env k c.args.words.now) c.args.net low))

pub returns-else-net-first : goal.returns-else-net-first
returns-else-net-first c k below =
    let n = c.args.circuit.now in
    let r = rules_at c.args.lines.now.faults.items k in
    let env = lane_env k c.args.words.now in
    let first : c.inputs.result + c.dffs.result ≡ first_gate_net n = λ i. c.inputs.ensures i + c.dffs.ensures i in
    let high : first_gate_net n ≤ c.args.net = omega (arith, c.if-net-first.false, first) in
    let gate : c.args.net - (c.inputs.result + c.dffs.result) ≡ c.args.net - first_gate_net n =
    ap (λ (m : ℕ). c.args.net - m) first in
    c.stem-else-net-first.ensures k below ∙ ap (r.stem c.args.net)
    (c.gate_output-word.ensures k below ∙ (ap (gate_output n r env) gate
    ∙ sym (drive_gate n r (in_lane k c.args.sources.now) env c.args.net high)))
