use Rattle.std.specs.List.{slice_get}
use Rattle.std.proofs.Common.{◌≡◌, ◌<◌, ◌≤◌, ◌∙◌, ap, sym, subst, arith, length, ℕ, List, false, eqb, map, take}
use Rattle.std.proofs.lemmas.Nat.Bits.{bit_at-zero}
use Rattle.ht_tern.specs.declared.tern.Tern.TheVariants.{Unk}
use Rattle.ht_tern.specs.Gate.{gate_value}
use Rattle.ht_items.specs.Bits.{is_set}
use Rattle.ht_lanes.specs.Lanes.{Lanes, lane, every_lane, word_at}
use Rattle.ht_lanes.proofs.LaneLaws.{gate_at_lane}
use Rattle.ht_net.specs.declared.net.NetId.{NetId}
use Rattle.ht_net.specs.declared.fault.Fault.{Fault}
use Rattle.ht_net.specs.Frames.Frame.{values_at}
use Rattle.ht_net.proofs.FrameLaws.{gate_from}
use Rattle.ht_frame.specs.StuckPins.{is_at_gate}
use Rattle.ht_frame.proofs.PinLaws.{plain_pins}
use Rattle.ht_group.specs.LaneRules.{rules_at, lane_env}
use Rattle.ht_group.proofs.PinLaws.{values_in_lane, stuck_pins}
use Rattle.ht_group.proofs.evaluate.gate_output.Goals as goal

pub returns-then-lanes-eq0 : goal.returns-then-lanes-eq0
returns-then-lanes-eq0 c k below =
    let n = c.args.circuit.now in
    let faults = c.args.lines.now.faults.items in
    let env = lane_env k c.args.words.now in
    let args = c.gate_args-args.result.now in
    let plain : is_at_gate (slice_get faults k) c.args.g ≡ false =
    sym (c.at_gate-lanes.ensures k below) ∙ (ap (λ m. is_set m k) c.if-lanes-eq0.true
    ∙ ap (λ b. eqb b 1) (bit_at-zero k))
    in
    gate_from n (rules_at faults k) c.args.g env c.gate_kind-kind.result args
    (values_at env args) (lane c.eval_nets.result k) c.gate_kind-kind.ensures c.gate_args-args.ensures.args
    (sym (plain_pins Unk gate_value _ (slice_get faults k) c.args.g env 0 args plain))
    (ap (λ (w : Lanes). lane w k) (c.eval_nets.ensures (every_lane Unk))
    ∙ (gate_at_lane k below c.gate_kind-kind.result (values_at (word_at c.args.words.now) args)
    ∙ ap (gate_value c.gate_kind-kind.result) (values_in_lane k below c.args.words.now args)))

pub returns : goal.returns
returns c k below =
    let n = c.args.circuit.now in
    let faults = c.args.lines.now.faults.items in
    let env = lane_env k c.args.words.now in
    let args = c.gate_args-args.result.now in
    let most = c.gate_args-args.ensures.circuit.few_args c.args.g c.requires.gate in
    let same = ap (λ (l : List NetId). length l) c.gate_args-args.ensures.args in
    let few : length args ≤ 255 = omega (arith, most, same) in
    let stuck : List Fault → Type 0 = λ (l : List Fault). (i m : ℕ) → i < 256 → m < 64
    → lane_env m c.stick_pins.new.pins i
    ≡ (rules_at l m).pin c.args.g i (lane_env m c.read_pins.new.pins i) in
    let pins = map (λ (w : Lanes). lane w k) (take (length args) c.stick_pins.new.pins) in
    gate_from n (rules_at faults k) c.args.g env c.gate_kind-kind.result args pins
    (lane c.eval_word.result k) c.gate_kind-kind.ensures c.gate_args-args.ensures.args
    (stuck_pins faults k c.args.g c.args.words.now args c.read_pins.new.pins c.stick_pins.new.pins below few
    c.stick_pins.ensures.room
    c.read_pins.ensures.read (subst stuck c.deref.ensures.value c.stick_pins.ensures.lanes))
    (c.eval_word.ensures.lanes k below)
