-- The values of a circuit's nets in one frame and over a run, in any domain of values and with any stuck lines.
use Rattle.std.specs.Prelude.{◌+◌, ◌-◌, ℕ, suc, zero, List, [], ◌∷◌, length, get_or, cond, ltb}
use Rattle.ht_tern.specs.declared.gate.Kind.{Kind}
use Rattle.ht_net.specs.declared.net.NetId.{NetId}
use Rattle.ht_net.specs.Circuit.Netlist.{Netlist, first_gate_net, gate_at}

-- A domain of values: what a gate makes of the values at its pins, and what each line makes of the value that it
-- carries. A fault is nothing but rules whose one line is forced.
pub record Rules (V : Type 0) : Type 0 where
  -- what stands where there is no value
  pub blank : V
  pub gate : Kind → List V → V
  -- at the stem of a net, at pin i of gate g, and at the data pin of flip-flop j
  pub stem : ℕ → V → V
  pub pin : ℕ → ℕ → V → V
  pub data_pin : ℕ → V → V

-- the values at the pins of gate g from pin i on, where the nets have the values of env
abbrev pub pin_values : {V : Type 0} → Rules V → ℕ → (ℕ → V) → ℕ → List NetId → List V
pin_values r g env i [] = []
pin_values r g env i (a ∷ args) = r.pin g i (env a.0) ∷ pin_values r g env (i + 1) args

-- what gate g gives its net
unfoldable pub gate_output : {V : Type 0} → Netlist → Rules V → (ℕ → V) → ℕ → V
gate_output c r env g = r.gate (gate_at c g).kind (pin_values r g env 0 (gate_at c g).args)

-- what a net's driver gives it: the vector's bit, the latch, or the gate's value
unfoldable pub driver_value : {V : Type 0} → Netlist → Rules V → List V → List V → (ℕ → V) → ℕ → V
driver_value c r vector latches env x =
    cond (ltb x c.inputs) (get_or vector x r.blank)
    (cond (ltb x (first_gate_net c)) (get_or latches (x - c.inputs) r.blank)
    (gate_output c r env (x - first_gate_net c)))

-- the value of net x, where the nets that its gate reads have the values of env
unfoldable pub net_value_over : {V : Type 0} → Netlist → Rules V → List V → List V → (ℕ → V) → ℕ → V
net_value_over c r vector latches env x = r.stem x (driver_value c r vector latches env x)

-- the value of net x by a recursion of at most k gates
unfoldable pub net_value_within : {V : Type 0} → ℕ → Netlist → Rules V → List V → List V → ℕ → V
net_value_within zero c r vector latches x = r.blank
net_value_within (suc k) c r vector latches x = net_value_over c r vector latches
    (net_value_within k c r vector latches) x

-- the value of net x in a frame, by recursion from the net down to inputs and latches
unfoldable pub net_value : {V : Type 0} → Netlist → Rules V → List V → List V → ℕ → V
net_value c r vector latches = net_value_within (suc (length c.gates)) c r vector latches

-- the values of a list of nets
abbrev pub values_at : {V : Type 0} → (ℕ → V) → List NetId → List V
values_at env [] = []
values_at env (x ∷ xs) = env x.0 ∷ values_at env xs

-- what the flip-flops from j on take, whose data pins read these nets
abbrev pub data_values : {V : Type 0} → Rules V → (ℕ → V) → ℕ → List NetId → List V
data_values r env j [] = []
data_values r env j (x ∷ xs) = r.data_pin j (env x.0) ∷ data_values r env (j + 1) xs

-- One frame: what the outputs show, and what the flip-flops take for the next frame.
unfoldable pub frame_outputs : {V : Type 0} → Netlist → Rules V → List V → List V → List V
frame_outputs c r vector latches = values_at (net_value c r vector latches) c.outputs

-- what each flip-flop takes at the end of a frame: what its data pin reads
unfoldable pub next_state : {V : Type 0} → Netlist → Rules V → List V → List V → List V
next_state c r vector latches = data_values r (net_value c r vector latches) 0 c.dffs

-- A run: the state after a list of vectors, and the outputs of each frame.
abbrev pub run_state : {V : Type 0} → Netlist → Rules V → List V → List (List V) → List V
run_state c r latches [] = latches
run_state c r latches (vector ∷ vectors) = run_state c r (next_state c r vector latches) vectors

-- the outputs of each frame of a run, one frame for each vector, each from the state that the frame before leaves
abbrev pub run_outputs : {V : Type 0} → Netlist → Rules V → List V → List (List V) → List (List V)
run_outputs c r latches [] = []
run_outputs c r latches (vector ∷ vectors) = frame_outputs c r vector latches
    ∷ run_outputs c r (next_state c r vector latches) vectors
