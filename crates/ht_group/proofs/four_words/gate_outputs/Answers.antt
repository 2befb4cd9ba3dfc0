use Rattle.std.specs.List.{slice_get}
use Rattle.std.proofs.Common.{◌≡◌, ◌<◌, ◌≤◌, ◌-◌, ◌+◌, ◌∙◌, suc, ap, sym, refl, arith, length, ℕ, List, [], ◌∷◌, false, eqb, map, take, get_or}
use Rattle.std.proofs.lemmas.Nat.Bits.{bit_at-zero}
use Rattle.ht_tern.specs.declared.tern.Tern.TheVariants.{Unk}
use Rattle.ht_tern.specs.Gate.{gate_value}
use Rattle.ht_lanes.specs.Lanes.{Lanes, gate_lanes, lane, word_at}
use Rattle.ht_lanes.proofs.LaneLaws.{gate_at_lane}
use Rattle.ht_net.specs.declared.net.NetId.{NetId}
use Rattle.ht_net.specs.Circuit.Netlist.{first_gate_net, gate_at, no_net}
use Rattle.ht_net.specs.Frames.Frame.{values_at}
use Rattle.ht_net.proofs.FrameLaws.{gate_from}
use Rattle.ht_frame.specs.StuckPins.{is_at_gate}
use Rattle.ht_frame.proofs.PinLaws.{plain_pins}
use Rattle.ht_group.specs.LaneRules.{rules_at, lane_env}
use Rattle.ht_group.proofs.PinLaws.{values_in_lane}
use Rattle.ht_group.proofs.four_words.gate_outputs.Goals as goal

-- what was read for each pin
all_read : {A B : Type 0} → (f : A → B) (env : ℕ → B) (args : List NetId) (fours : List A) (d : A)
    → length args ≤ length fours
    → ((i : ℕ) → i < length args → f (get_or fours i d) ≡ env (get_or args i no_net).0)
    → map f (take (length args) fours) ≡ values_at env args
all_read f env [] fours d few read = refl
all_read f env (x ∷ args) [] d few read = absurd (omega arith)
all_read f env (x ∷ args) (y ∷ fours) d few read =
    let first = read 0 (omega arith) in
    let rest = all_read f env args fours d (omega arith) (λ i below. read (suc i) (omega arith)) in
    λ i. first i ∷ rest i

pub returns : goal.returns
returns c w k d inside below =
    let n = c.args.circuit.now in
    let m = get_or c.args.words.now w d in
    let faults = m.lines.faults.items in
    let env = lane_env k m.nets.words in
    let args = c.gate_args-args.result.now in
    let kind = c.gate_kind.result in
    let g = c.args.net - first_gate_net n in
    let at : c.args.net - (c.inputs.result + c.dffs.result) ≡ c.args.net - first_gate_net c.args.circuit.now =
    omega (arith, c.inputs.ensures, c.dffs.ensures) in
    let plain : is_at_gate (slice_get faults k) g ≡ false =
    sym (c.requires.free.free w d inside k below) ∙ ap (λ b. eqb b 1) (bit_at-zero k) in
    let most = c.gate_args-args.ensures.circuit.few_args g (omega (arith, c.requires.net, c.requires.free.gate)) in
    let same = ap (λ (l : List NetId). length l)
    (c.gate_args-args.ensures.args ∙ ap (λ (h : ℕ). (gate_at n h).args) at) in
    let few : length args ≤ length c.read_fours.new.fours = omega (arith, most, same, c.read_fours.ensures.room) in
    let read = all_read (λ (four : List Lanes). word_at four w) (word_at m.nets.words) args c.read_fours.new.fours []
    few
    (λ i pin. c.read_fours.ensures.read i w d pin inside) in
    gate_from n (rules_at faults k) g env kind args (values_at env args) (lane (word_at c.eval_four.result w) k)
    (c.gate_kind.ensures ∙ ap (λ (h : ℕ). (gate_at n h).kind) at)
    (c.gate_args-args.ensures.args ∙ ap (λ (h : ℕ). (gate_at n h).args) at)
    (sym (plain_pins Unk gate_value _ (slice_get faults k) g env 0 args plain))
    (ap (λ (v : Lanes). lane v k) (c.eval_four.ensures w inside ∙ ap (gate_lanes kind) read)
    ∙ (gate_at_lane k below kind (values_at (word_at m.nets.words) args)
    ∙ ap (gate_value kind) (values_in_lane k below m.nets.words args)))
