-- The values of nets in a frame with one net forced.
use Rattle.std.proofs.Common.{◌≡◌, ◌≢◌, ◌<◌, ◌≤◌, ◌+◌, ◌-◌, ◌∙◌, ℕ, suc, zero, List, [], ◌∷◌, cond, length, get_or, refl, sym, ap, arith, inl, inr}
use Rattle.std.specs.Prelude.{ltb}
use Rattle.std.proofs.lemmas.Bool.{eq-eqb, ne_eqb}
use Rattle.std.proofs.lemmas.Bool.Decides.{eqb_tells}
use Rattle.ht_net.specs.declared.net.NetId.{NetId}
use Rattle.ht_net.specs.Circuit.Netlist.{Netlist, first_gate_net, net_count, gate_at, arg_at, no_net, IsCircuit}
use Rattle.ht_net.specs.Frames.Frame.{Rules, pin_values, gate_output, driver_value, net_value_over, net_value}
use Rattle.ht_net.proofs.Depth.{IsDepth}
use Rattle.ht_net.proofs.DepthLaws.{circuit_depth}
use Rattle.ht_net.proofs.FrameLaws.{arg_lower, driven_gate, gate_same, value_same, frame_settled, settled_is_frame}
use Rattle.ht_stems.specs.ForcedNets.{net_forced, with_net_value}
use Rattle.ht_stems.proofs.ReadLaws.{IsUnreadByGates, IsReadByGate}

-- the value that was put in place
pub with_here : {V : Type 0} → (e : ℕ → V) (x : ℕ) (v : V) (y : ℕ) → y ≡ x → with_net_value e x v y ≡ v
with_here e x v y is = ap (λ b. cond b v (e y)) (eq-eqb y x is)

-- where one net has another value, each other net keeps its own
pub with_other : {V : Type 0} → (e : ℕ → V) (x : ℕ) (v : V) (y : ℕ) → y ≢ x → with_net_value e x v y ≡ e y
with_other e x v y ne = ap (λ b. cond b v (e y)) (ne_eqb y x ne)

-- values that agree but where one is put in place agree with it too
pub with_same : {V : Type 0} → (e f : ℕ → V) (x : ℕ) (v : V) (y : ℕ) → (y ≢ x → e y ≡ f y)
    → with_net_value e x v y ≡ with_net_value f x v y
with_same e f x v y same = elim (eqb_tells y x) [
  | inl p ↦ with_here e x v y p.1 ∙ sym (with_here f x v y p.1)
  | inr p ↦ with_other e x v y p.1 ∙ (same p.1 ∙ sym (with_other f x v y p.1))
]

pins_forced : {V : Type 0} → (r : Rules V) (x : ℕ) (v : V) (g : ℕ) (e : ℕ → V) (i : ℕ) (args : List NetId)
    → pin_values (net_forced r x v) g e i args ≡ pin_values r g e i args
pins_forced r x v g e i [] = refl
pins_forced r x v g e i (a ∷ args) = ap (λ t. r.pin g i (e a.0) ∷ t) (pins_forced r x v g e (i + 1) args)

-- A gate gives what it gives, whatever net is forced.
pub gate_forced : {V : Type 0} → (c : Netlist) (r : Rules V) (x : ℕ) (v : V) (e : ℕ → V) (g : ℕ)
    → gate_output c (net_forced r x v) e g ≡ gate_output c r e g
unfolding gate_output
gate_forced c r x v e g = ap (r.gate (gate_at c g).kind) (pins_forced r x v g e 0 (gate_at c g).args)

driver_forced : {V : Type 0} → (c : Netlist) (r : Rules V) (x : ℕ) (v : V) (vector latches : List V) (e : ℕ → V)
    (y : ℕ) → driver_value c (net_forced r x v) vector latches e y ≡ driver_value c r vector latches e y
unfolding driver_value
driver_forced {V} c r x v vector latches e y =
    ap (λ (t : V). cond (ltb y c.inputs) (get_or vector y r.blank)
    (cond (ltb y (first_gate_net c)) (get_or latches (y - c.inputs) r.blank) t))
    (gate_forced c r x v e (y - first_gate_net c))

-- The forced net has the value, and each other one what it has without.
pub over_here : {V : Type 0} → (c : Netlist) (r : Rules V) (x : ℕ) (v : V) (vector latches : List V) (e : ℕ → V)
    (y : ℕ) → y ≡ x → net_value_over c (net_forced r x v) vector latches e y ≡ v
unfolding net_value_over
over_here {V} c r x v vector latches e y is =
    ap (λ b. cond b v (r.stem y (driver_value c (net_forced r x v) vector latches e y))) (eq-eqb y x is)

-- over the same values of the nets, each net but the forced one has the value that it has without
pub over_other : {V : Type 0} → (c : Netlist) (r : Rules V) (x : ℕ) (v : V) (vector latches : List V) (e : ℕ → V)
    (y : ℕ) → y ≢ x
    → net_value_over c (net_forced r x v) vector latches e y ≡ net_value_over c r vector latches e y
unfolding net_value_over
over_other {V} c r x v vector latches e y ne =
    ap (λ b. cond b v (r.stem y (driver_value c (net_forced r x v) vector latches e y))) (ne_eqb y x ne)
    ∙ ap (r.stem y) (driver_forced c r x v vector latches e y)

module _ {V : Type 0} (c : Netlist) (circuit : IsCircuit c) (vector latches : List V) where
  -- What is settled by rules is their frame.
  pub is_frame : (s : Rules V) (e : ℕ → V)
      → ((y : ℕ) → y < net_count c → e y ≡ net_value_over c s vector latches e y)
      → (y : ℕ) → y < net_count c → e y ≡ net_value c s vector latches y
  is_frame s e settled =
      let d = circuit_depth c circuit in
      settled_is_frame c d.0 d.1 s vector latches e (record { settled = settled })

  -- in a frame each net has the value that its driver and its stem give it
  pub frame_over : (s : Rules V) (y : ℕ) → y < net_count c
      → net_value c s vector latches y ≡ net_value_over c s vector latches (net_value c s vector latches) y
  frame_over s =
      let d = circuit_depth c circuit in
      (frame_settled c d.0 d.1 s vector latches).settled

  module _ (r : Rules V) where
    -- A net that is forced to its own value leaves all values.
    pub own_same : (x : ℕ) (v : V) → v ≡ net_value c r vector latches x → (y : ℕ) → y < net_count c
        → net_value c r vector latches y ≡ net_value c (net_forced r x v) vector latches y
    own_same x v own = is_frame (net_forced r x v) (net_value c r vector latches)
        (λ y inside. elim (eqb_tells y x) [
          | inl p ↦ ap (net_value c r vector latches) p.1 ∙ (sym own
              ∙ sym (over_here c r x v vector latches (net_value c r vector latches) y p.1))
          | inr p ↦ frame_over r y inside
              ∙ sym (over_other c r x v vector latches (net_value c r vector latches) y p.1)
        ])

    -- A forced net has the value.
    pub forced_value : (x : ℕ) (v : V) → x < net_count c → net_value c (net_forced r x v) vector latches x ≡ v
    forced_value x v known = frame_over (net_forced r x v) x known
        ∙ over_here c r x v vector latches (net_value c (net_forced r x v) vector latches) x refl

    -- A forced net leaves the nets that aren't deeper.
    pub upstream : (depth : ℕ → ℕ) (deep : IsDepth c depth) (x : ℕ) (v : V) (k y : ℕ) → y < net_count c → depth y < k
        → depth y ≤ depth x → y ≢ x
        → net_value c (net_forced r x v) vector latches y ≡ net_value c r vector latches y
    upstream depth deep x v zero y inside lt le ne = absurd (omega arith)
    upstream depth deep x v (suc k) y inside lt le ne =
        let F : ℕ → V = net_value c (net_forced r x v) vector latches in
        let E : ℕ → V = net_value c r vector latches in
        frame_over (net_forced r x v) y inside
        ∙ (over_other c r x v vector latches F y ne
        ∙ (value_same c r vector latches F E y
        (λ j at l. let a = arg_lower c depth deep y j inside at l in
        upstream depth deep x v k _ a.0 (omega (arith, a.1)) (omega (arith, a.1))
        (λ e. let same = ap depth e in omega (arith, same, a.1)))
        ∙ sym (frame_over r y inside)))

    -- A net that no gate reads leaves each other one.
    pub unread_same : (x : ℕ) (v : V) → IsUnreadByGates c x → (y : ℕ) → y < net_count c → y ≢ x
        → net_value c (net_forced r x v) vector latches y ≡ net_value c r vector latches y
    unread_same x v unread y inside ne =
        let E : ℕ → V = net_value c r vector latches in
        let H : ℕ → V = with_net_value (net_value c r vector latches) x v in
        sym (is_frame (net_forced r x v) H
        (λ z here. elim (eqb_tells z x) [
          | inl p ↦ with_here E x v z p.1 ∙ sym (over_here c r x v vector latches H z p.1)
          | inr p ↦ with_other E x v z p.1 ∙ (frame_over r z here
              ∙ (value_same c r vector latches E H z
              (λ j at l. sym (with_other E x v _ (unread (z - first_gate_net c) j (omega arith) l)))
              ∙ sym (over_other c r x v vector latches H z p.1)))
        ]) y inside)
        ∙ with_other E x v y ne

    -- A net that only one gate reads leaves each other one as the gate's net does, forced to what the gate then gives.
    pub through_same : (x g : ℕ) (v w : V) → x < net_count c → g < length c.gates → IsReadByGate c x g
        → ((j : ℕ) × (j < length (gate_at c g).args) × (arg_at c g j ≡ x))
        → w ≡ r.stem (first_gate_net c + g)
        (gate_output c r (with_net_value (net_value c r vector latches) x v) g)
        → (y : ℕ) → y < net_count c → y ≢ x
        → net_value c (net_forced r x v) vector latches y
        ≡ net_value c (net_forced r (first_gate_net c + g) w) vector latches y
    unfolding net_value_over
    through_same x g v w known gate only (j, pin, reads) gives y inside ne =
        let m : ℕ = first_gate_net c + g in
        let E : ℕ → V = net_value c r vector latches in
        let G : ℕ → V = net_value c (net_forced r (first_gate_net c + g) w) vector latches in
        let K : ℕ → V = with_net_value G x v in
        let d = circuit_depth c circuit in
        let lower : d.0 x < d.0 (first_gate_net c + g) =
        let falls = d.1.falls g j gate pin in omega (arith, falls, ap d.0 reads) in
        let apart : first_gate_net c + g ≢ x = λ e. let same = ap d.0 e in omega (arith, same, lower) in
        let at_gate : first_gate_net c + g - first_gate_net c ≡ g = omega arith in
        let args : (i : ℕ) → i < length (gate_at c g).args
        → K (get_or (gate_at c g).args i no_net).0 ≡ with_net_value E x v (get_or (gate_at c g).args i no_net).0 =
        λ i l. with_same G E x v _
        (λ other. let falls = d.1.falls g i gate l in
        upstream d.0 d.1 (first_gate_net c + g) w (suc (d.0 (arg_at c g i))) _ (d.1.known g i gate l) (omega arith)
        (omega (arith, falls)) (λ e. let same = ap d.0 e in omega (arith, same, falls))) in
        let at_net : K (first_gate_net c + g) ≡ net_value_over c r vector latches K (first_gate_net c + g) =
        with_other G x v m apart
        ∙ (frame_over (net_forced r m w) m (omega arith)
        ∙ (over_here c r m w vector latches G m refl
        ∙ (gives ∙ ap (r.stem m) (sym (driven_gate c r vector latches K m (omega arith)
        ∙ (ap (gate_output c r K) at_gate ∙ gate_same c r K (with_net_value E x v) g args)))))) in
        sym (is_frame (net_forced r x v) K
        (λ z here. elim (eqb_tells z x) [
          | inl p ↦ with_here G x v z p.1 ∙ sym (over_here c r x v vector latches K z p.1)
          | inr p ↦ elim (eqb_tells z (first_gate_net c + g)) [
            | inl q ↦ ap K q.1 ∙ (at_net ∙ (ap (net_value_over c r vector latches K) (sym q.1)
                ∙ sym (over_other c r x v vector latches K z p.1)))
            | inr q ↦ with_other G x v z p.1 ∙ (frame_over (net_forced r m w) z here
                ∙ (over_other c r m w vector latches G z q.1
                ∙ (value_same c r vector latches G K z
                (λ i at l. sym (with_other G x v _
                (λ e. q.1 (let is = only (z - first_gate_net c) i (omega arith) l e in omega (arith, is)))))
                ∙ sym (over_other c r x v vector latches K z p.1))))
          ]
        ]) y inside)
        ∙ with_other G x v y ne
