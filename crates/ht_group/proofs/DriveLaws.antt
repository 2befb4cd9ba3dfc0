-- What drives a net, where the sources are the vector and then the latches; where each net has its value, all are a
-- frame.
use Rattle.std.proofs.Common.{◌≡◌, ◌<◌, ◌≤◌, ◌+◌, ◌-◌, ◌∙◌, ℕ, List, length, get_or, take, drop, ap, sym, subst, refl, arith, inl, inr}
use Rattle.std.proofs.lemmas.Bool.Decides.{nat_tests}
use Rattle.std.proofs.lemmas.List.{get_or-take, get_or-drop}
use Rattle.ht_net.specs.Circuit.Netlist.{Netlist, first_gate_net, net_count, arg_at, IsCircuit}
use Rattle.ht_net.specs.Frames.Frame.{Rules, net_value, net_value_over, driver_value, gate_output}
use Rattle.ht_net.proofs.FrameLaws.{le_or_lt, driven_input, driven_latch, driven_gate, gate_same, frame_settled, settled_is_frame}
use Rattle.ht_net.proofs.DepthLaws.{circuit_depth}
use Rattle.ht_group.specs.LaneRules.{drive_from, given_value, HasItsValue}
use Rattle.ht_events.specs.Schedules.{ReadsFrom}

-- an input or a flip-flop is driven by its source, and another net by its gate
pub drive_low : {V : Type 0} → (c : Netlist) (r : Rules V) (sources : List V) (env : ℕ → V) (x : ℕ)
    → x < first_gate_net c → drive_from c r sources env x ≡ get_or sources x r.blank
drive_low c r sources env x low = grind (arith, nat_tests)

-- a net that is no input and no flip-flop is driven by its gate
pub drive_gate : {V : Type 0} → (c : Netlist) (r : Rules V) (sources : List V) (env : ℕ → V) (x : ℕ)
    → first_gate_net c ≤ x → drive_from c r sources env x ≡ gate_output c r env (x - first_gate_net c)
drive_gate c r sources env x high = grind (arith, nat_tests)

-- the same as what drives it in a frame
drive_is : {V : Type 0} → (c : Netlist) (r : Rules V) (sources : List V) (env : ℕ → V) (x : ℕ)
    → driver_value c r (take c.inputs sources) (drop c.inputs sources) env x ≡ drive_from c r sources env x
drive_is c r sources env x =
    let vector = take c.inputs sources in
    let latches = drop c.inputs sources in
    elim (le_or_lt (first_gate_net c) x) [
      | inl high ↦ driven_gate c r vector latches env x high ∙ sym (drive_gate c r sources env x high)
      | inr low ↦ elim (le_or_lt c.inputs x) [
        | inl at ↦
            let is : c.inputs + (x - c.inputs) ≡ x = omega arith in
            driven_latch c r vector latches env x at low
            ∙ (get_or-drop c.inputs sources (x - c.inputs) r.blank
            ∙ (ap (λ (n : ℕ). get_or sources n r.blank) is ∙ sym (drive_low c r sources env x low)))
        | inr input ↦
            driven_input c r vector latches env x input
            ∙ (get_or-take c.inputs sources x r.blank input ∙ sym (drive_low c r sources env x low))
      ]
    ]

over_is : {V : Type 0} → (c : Netlist) (r : Rules V) (sources : List V) (env : ℕ → V) (x : ℕ)
    → net_value_over c r (take c.inputs sources) (drop c.inputs sources) env x
    ≡ given_value c r sources env x
unfolding net_value_over
over_is c r sources env x = ap (r.stem x) (drive_is c r sources env x)

-- Where each net has its value, all are a frame.
pub values_are_frame : {V : Type 0} → (c : Netlist) → IsCircuit c → (r : Rules V) (sources : List V) (env : ℕ → V)
    → ((x : ℕ) → x < net_count c → HasItsValue c r sources env x)
    → (x : ℕ) → x < net_count c → env x ≡ net_value c r (take c.inputs sources) (drop c.inputs sources) x
values_are_frame c circuit r sources env has =
    let depth = circuit_depth c circuit in
    settled_is_frame c depth.0 depth.1 r (take c.inputs sources) (drop c.inputs sources) env
    (record { settled = λ x inside. has x inside ∙ sym (over_is c r sources env x) })

-- In a frame each net has its value.
pub frame_has_values : {V : Type 0} → (c : Netlist) → IsCircuit c → (r : Rules V) (sources : List V)
    → (x : ℕ) → x < net_count c
    → HasItsValue c r sources (net_value c r (take c.inputs sources) (drop c.inputs sources)) x
frame_has_values c circuit r sources x inside =
    let depth = circuit_depth c circuit in
    let vector = take c.inputs sources in
    let latches = drop c.inputs sources in
    (frame_settled c depth.0 depth.1 r vector latches).settled x inside
    ∙ over_is c r sources (net_value c r vector latches) x

-- Where two have the same values at the nets that its gate reads, they drive a net alike.
pub drive_same : {V : Type 0} → (c : Netlist) (r : Rules V) (sources : List V) (e f : ℕ → V) (y : ℕ)
    → y < net_count c → ((x : ℕ) → ReadsFrom c y x → e x ≡ f x)
    → drive_from c r sources e y ≡ drive_from c r sources f y
drive_same c r sources e f y inside same = elim (le_or_lt (first_gate_net c) y) [
  | inl high ↦
      drive_gate c r sources e y high
      ∙ (gate_same c r e f (y - first_gate_net c)
      (λ i pin. same (arg_at c (y - first_gate_net c) i)
      (record { pin = i; is_gate = high; known = inside; is_pin = pin; reads = refl }))
      ∙ sym (drive_gate c r sources f y high))
  | inr low ↦ drive_low c r sources e y low ∙ sym (drive_low c r sources f y low)
]

-- What a gate reads is a net.
pub read_known : (c : Netlist) → IsCircuit c → (y x : ℕ) → ReadsFrom c y x → x < net_count c
read_known c circuit y x read =
    let gate : y - first_gate_net c < length c.gates = let k = read.known in omega (arith, read.is_gate, k) in
    subst (λ (n : ℕ). n < net_count c) read.reads
    (circuit.known (y - first_gate_net c) read.pin gate read.is_pin)

-- The same source drives it alike.
pub source_same : {V : Type 0} → (c : Netlist) (r : Rules V) (s t : List V) (env : ℕ → V) (y : ℕ)
    → get_or s y r.blank ≡ get_or t y r.blank → drive_from c r s env y ≡ drive_from c r t env y
source_same c r s t env y same = elim (le_or_lt (first_gate_net c) y) [
  | inl high ↦ drive_gate c r s env y high ∙ sym (drive_gate c r t env y high)
  | inr low ↦ drive_low c r s env y low ∙ (same ∙ sym (drive_low c r t env y low))
]
