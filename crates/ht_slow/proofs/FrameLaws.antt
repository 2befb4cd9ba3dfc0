-- A frame of an expanded circuit is a frame of the circuit.
use Rattle.std.proofs.Common.{◌≡◌, ◌<◌, ◌≤◌, ◌+◌, ◌-◌, ℕ, suc, List, [], ◌∷◌, ◌++◌, Bool, true, false, cond, length, get_or, map, refl, sym, ◌∙◌, ap, subst, arith, inl, inr}
use Rattle.std.specs.Prelude.{ltb, eqb, ◌&&◌}
use Rattle.std.proofs.lemmas.Bool.{true≢false, eq-eqb}
use Rattle.std.proofs.lemmas.Bool.Decides.{nat_tests, eqb_tells}
use Rattle.std.proofs.lemmas.List.{get_or_append_left, get_or_at}
use Rattle.ht_tern.specs.declared.gate.Kind.{Kind}
use Rattle.ht_tern.specs.declared.gate.Kind.TheVariants.{And, Or}
use Rattle.ht_net.specs.declared.net.NetId.{NetId}
use Rattle.ht_net.specs.declared.fault.Site.{Site}
use Rattle.ht_net.specs.declared.fault.Site.TheVariants.{Stem, DffPin, GatePin}
use Rattle.ht_net.specs.Circuit.Netlist.{Netlist, Gate, no_net, first_gate_net, net_count, gate_at, arg_at}
use Rattle.ht_net.specs.Frames.Frame.{Rules, pin_values, gate_output, driver_value, net_value_over, net_value, values_at, data_values, frame_outputs, next_state}
use Rattle.ht_net.specs.Frames.Faults.{is_stem, is_pin, is_data_pin}
use Rattle.ht_net.proofs.Depth.{IsDepth}
use Rattle.ht_net.proofs.FrameLaws.{IsSettled, driven_input, driven_latch, driven_gate, gate_same, le_or_lt, frame_settled, settled_is_frame}
use Rattle.ht_slow.specs.Slow.{carrier_of, carried, IsLine}
use Rattle.ht_slow.specs.ExpandedLine.{moved, moved_line, before_net, line_net, both_net, read_net, read_args, read_dffs, expanded_line}
use Rattle.ht_slow.proofs.DepthLaws.{old_arg_is}
use Rattle.ht_slow.proofs.PlaceLaws.{old_dff_is, read_gate, gates_length, old_gate, first_new_gate, second_new_gate, dffs_length}

-- The rules of a machine with a line that is changed, and those of the expanded machine.
pub record Expands {V : Type 0} (c : Netlist) (site : Site) (r s : Rules V) (before : V) (change : V → V) : Type 0 where
  pub stem : (x : ℕ) (v : V) → x < net_count c
      → r.stem x v ≡ cond (is_stem site x) (change v) (s.stem (moved c x) v)
  pub pin : (g i : ℕ) (v : V) → g < length c.gates → r.pin g i v ≡ cond (is_pin site g i) (change v) (s.pin g i v)
  pub data_on : (j : ℕ) (v : V) → j < length c.dffs
      → r.data_pin j v ≡ cond (is_data_pin site j) (change v) (s.data_pin j v)
  pub same_gate : (kind : Kind) (vs : List V) → s.gate kind vs ≡ r.gate kind vs
  pub same_blank : s.blank ≡ r.blank
  -- the line itself isn't faulty in the expanded machine; other lines may be
  pub stem_free : (x : ℕ) (v : V) → x < net_count c → is_stem site x ≡ true → s.stem (moved c x) v ≡ v
  pub pin_free : (g i : ℕ) (v : V) → g < length c.gates → is_pin site g i ≡ true → s.pin g i v ≡ v
  pub data_free : (j : ℕ) (v : V) → j < length c.dffs → is_data_pin site j ≡ true → s.data_pin j v ≡ v
  -- nor are the stems of its three nets, and the data pin of P
  pub before_free : (v : V) → s.stem (before_net c) v ≡ v
  pub line_free : (v : V) → s.stem (line_net c) v ≡ v
  pub both_free : (v : V) → s.stem (both_net c) v ≡ v
  pub data_off : (v : V) → s.data_pin (length c.dffs) v ≡ v
  pub line : (v : V) → s.gate Or (s.pin (length c.gates) 0 v ∷ s.pin (length c.gates) 1
      (s.gate And (s.pin (suc (length c.gates)) 0 v ∷ s.pin (suc (length c.gates)) 1 before ∷ [])) ∷ []) ≡ change v

-- what a driver gives its net
abbrev pub given : {V : Type 0} → Netlist → Rules V → List V → List V → ℕ → V
given c r vector latches x = driver_value c r vector latches (net_value c r vector latches) x

-- what the second new gate gives
abbrev pub both : {V : Type 0} → Netlist → Site → Rules V → Rules V → List V → List V → V → V
both c site r s vector latches before =
    s.gate And (s.pin (suc (length c.gates)) 0 (carried c r vector latches site)
    ∷ s.pin (suc (length c.gates)) 1 before ∷ [])

-- the values of the expanded circuit's nets
abbrev pub wide : {V : Type 0} → Netlist → Site → Rules V → Rules V → List V → List V → V → (V → V) → ℕ → V
wide c site r s vector latches before change n =
    cond (ltb n (first_gate_net c)) (s.stem n (given c r vector latches n))
    (cond (eqb n (first_gate_net c)) before
    (cond (ltb n (suc (net_count c))) (s.stem n (given c r vector latches (n - 1)))
    (cond (eqb n (suc (net_count c))) (change (carried c r vector latches site))
    (both c site r s vector latches before))))

-- what a reader of net x has to be, to be a load of the line
abbrev pub Reads : Netlist → Site → Bool → ℕ → Type 0
Reads c (Stem y) at x = at ≡ false
Reads c (DffPin j) at x = at ≡ true → carrier_of c (DffPin j) ≡ x
Reads c (GatePin g i) at x = at ≡ true → carrier_of c (GatePin g i) ≡ x

module _ {V : Type 0} (c : Netlist) (site : Site) (r s : Rules V) (vector latches : List V) (before : V)
    (change : V → V) where
  abbrev w : ℕ → V
  w = wide c site r s vector latches before change

  moved_low : (x : ℕ) → x < first_gate_net c → moved c x ≡ x
  moved_low x h = grind (arith, nat_tests)

  moved_high : (x : ℕ) → first_gate_net c ≤ x → moved c x ≡ suc x
  moved_high x h = grind (arith, nat_tests)

  wide_low : (x : ℕ) → x < first_gate_net c → w x ≡ s.stem x (given c r vector latches x)
  wide_low x h = grind (arith, nat_tests)

  wide_high : (x : ℕ) → first_gate_net c ≤ x → x < net_count c
      → w (suc x) ≡ s.stem (suc x) (given c r vector latches (suc x - 1))
  wide_high x h k = grind (arith, nat_tests)

  pub wide_moved : (x : ℕ) → x < net_count c → w (moved c x) ≡ s.stem (moved c x) (given c r vector latches x)
  wide_moved x h = elim (le_or_lt (first_gate_net c) x) [
    | inl k ↦
        let e : suc x - 1 ≡ x = omega arith in
        let m : moved c x ≡ suc x = moved_high x k in
        ap w m ∙ (wide_high x k h
        ∙ (ap (λ (n : ℕ). s.stem (suc x) (given c r vector latches n)) e
        ∙ ap (λ (n : ℕ). s.stem n (given c r vector latches x)) (sym m)))
    | inr k ↦
        let m : moved c x ≡ x = moved_low x k in
        ap w m ∙ (wide_low x k ∙ ap (λ (n : ℕ). s.stem n (given c r vector latches x)) (sym m))
  ]

  pub wide_line : w (line_net c) ≡ change (carried c r vector latches site)
  wide_line = grind (arith, nat_tests)

  pub wide_both : w (both_net c) ≡ both c site r s vector latches before
  wide_both = grind (arith, nat_tests)

  pub wide_before : w (before_net c) ≡ before
  wide_before = grind (arith, nat_tests)

-- what a load reads in the expanded circuit has the value that it sees in the circuit
reads : {V : Type 0} → (c : Netlist) (site : Site) (r s : Rules V) (vector latches : List V) (before : V)
    (change : V → V)
    → ((n : ℕ) → n < net_count c → net_value c r vector latches n
    ≡ cond (is_stem site n) (change (given c r vector latches n)) (s.stem (moved c n) (given c r vector latches n)))
    → (a : NetId) (at : Bool) → a.0 < net_count c → Reads c site at a.0
    → wide c site r s vector latches before change (read_net c site at a).0
    ≡ cond at (change (net_value c r vector latches a.0)) (net_value c r vector latches a.0)
reads c (Stem y) r s vector latches before change own a true h is = absurd (true≢false is)
reads {V} c (Stem y) r s vector latches before change own a false h is =
    let w : ℕ → V = wide c (Stem y) r s vector latches before change in
    let g : ℕ → V = given c r vector latches in
    elim (eqb_tells a.0 y.0) [
      | inl p ↦
          ap (λ (b : Bool). w (cond b (line_net c) (moved c a.0))) p.0
          ∙ (wide_line c (Stem y) r s vector latches before change
          ∙ (ap (λ (n : ℕ). change (g n)) (sym p.1)
          ∙ sym (own a.0 h ∙ ap (λ (b : Bool). cond b (change (g a.0)) (s.stem (moved c a.0) (g a.0))) p.0)))
      | inr p ↦
          ap (λ (b : Bool). w (cond b (line_net c) (moved c a.0))) p.0
          ∙ (wide_moved c (Stem y) r s vector latches before change a.0 h
          ∙ sym (own a.0 h ∙ ap (λ (b : Bool). cond b (change (g a.0)) (s.stem (moved c a.0) (g a.0))) p.0))
    ]
reads c (DffPin j) r s vector latches before change own a true h is =
    wide_line c (DffPin j) r s vector latches before change
    ∙ ap (λ (n : ℕ). change (net_value c r vector latches n)) (is refl)
reads c (DffPin j) r s vector latches before change own a false h is =
    wide_moved c (DffPin j) r s vector latches before change a.0 h ∙ sym (own a.0 h)
reads c (GatePin g i) r s vector latches before change own a true h is =
    wide_line c (GatePin g i) r s vector latches before change
    ∙ ap (λ (n : ℕ). change (net_value c r vector latches n)) (is refl)
reads c (GatePin g i) r s vector latches before change own a false h is =
    wide_moved c (GatePin g i) r s vector latches before change a.0 h ∙ sym (own a.0 h)

-- the first argument of the line's gates is what the line carries
carries : {V : Type 0} → (c : Netlist) (site : Site) (r s : Rules V) (vector latches : List V) (before : V)
    (change : V → V)
    → ((n : ℕ) → n < net_count c → net_value c r vector latches n
    ≡ cond (is_stem site n) (change (given c r vector latches n)) (s.stem (moved c n) (given c r vector latches n)))
    → ((x : ℕ) (v : V) → x < net_count c → is_stem site x ≡ true → s.stem (moved c x) v ≡ v)
    → carrier_of c site < net_count c
    → wide c site r s vector latches before change (moved c (carrier_of c site)) ≡ carried c r vector latches site
carries c (Stem y) r s vector latches before change own free h =
    wide_moved c (Stem y) r s vector latches before change y.0 h
    ∙ free y.0 (given c r vector latches y.0) h (eq-eqb y.0 y.0 refl)
carries c (DffPin j) r s vector latches before change own free h =
    wide_moved c (DffPin j) r s vector latches before change (carrier_of c (DffPin j)) h
    ∙ sym (own (carrier_of c (DffPin j)) h)
carries c (GatePin g i) r s vector latches before change own free h =
    wide_moved c (GatePin g i) r s vector latches before change (carrier_of c (GatePin g i)) h
    ∙ sym (own (carrier_of c (GatePin g i)) h)

either_way : {V : Type 0} → (u w : V) (b : Bool) → u ≡ w → cond b u w ≡ w
either_way u w true is = is
either_way u w false is = refl

-- the pins, data pins and outputs that are loads of the line
pin_reads : (c : Netlist) (site : Site) (g i : ℕ) → Reads c site (is_pin site g i) (arg_at c g i)
pin_reads c (Stem y) g i = refl
pin_reads c (DffPin j) g i = λ p. absurd (true≢false (sym p))
pin_reads c (GatePin h k) g i = λ p. elim (eqb_tells g h) [
  | inl a ↦ elim (eqb_tells i k) [
    | inl b ↦ ap (λ (n : ℕ). arg_at c n k) (sym a.1) ∙ ap (λ (n : ℕ). arg_at c g n) (sym b.1)
    | inr b ↦ absurd (true≢false (sym p ∙ (ap (λ (t : Bool). t && eqb i k) a.0 ∙ b.0)))
  ]
  | inr a ↦ absurd (true≢false (sym p ∙ ap (λ (t : Bool). t && eqb i k) a.0))
]

data_reads : (c : Netlist) (site : Site) (j : ℕ) → Reads c site (is_data_pin site j) (get_or c.dffs j no_net).0
data_reads c (Stem y) j = refl
data_reads c (DffPin k) j = λ p. elim (eqb_tells j k) [
  | inl a ↦ ap (λ (n : ℕ). (get_or c.dffs n no_net).0) (sym a.1)
  | inr a ↦ absurd (true≢false (sym p ∙ a.0))
]
data_reads c (GatePin g i) j = λ p. absurd (true≢false (sym p))

output_reads : (c : Netlist) (site : Site) (x : ℕ) → Reads c site false x
output_reads c (Stem y) x = refl
output_reads c (DffPin j) x = λ p. absurd (true≢false (sym p))
output_reads c (GatePin g i) x = λ p. absurd (true≢false (sym p))

module _ {V : Type 0} (c : Netlist) (site : Site) (names : List (List ℕ)) (r s : Rules V) (vector latches : List V)
    (before : V) (change : V → V) (ex : Expands c site r s before change) (depth : ℕ → ℕ) (deep : IsDepth c depth)
    (inside : carrier_of c site < net_count c) (many : length latches ≡ length c.dffs) where
  abbrev e : ℕ → V
  e = net_value c r vector latches

  abbrev v : ℕ → V
  v = wide c site r s vector latches before change

  abbrev big : Netlist
  big = expanded_line c site names

  abbrev state : List V
  state = latches ++ before ∷ []

  own : (n : ℕ) → n < net_count c
      → e n ≡ cond (is_stem site n) (change (given c r vector latches n))
      (s.stem (moved c n) (given c r vector latches n))
  unfolding net_value_over
  own n h = (frame_settled c depth deep r vector latches).settled n h ∙ ex.stem n (given c r vector latches n) h

  read_here : (a : NetId) (at : Bool) → a.0 < net_count c → Reads c site at a.0
      → v (read_net c site at a).0 ≡ cond at (change (e a.0)) (e a.0)
  read_here = reads c site r s vector latches before change own

  pin_step : (g i : ℕ) (u t : V) (b : Bool) → g < length c.gates → is_pin site g i ≡ b → t ≡ cond b (change u) u
      → s.pin g i t ≡ r.pin g i u
  pin_step g i u t true h is same =
      ap (s.pin g i) same
      ∙ (ex.pin_free g i (change u) h is
      ∙ sym (ex.pin g i u h ∙ ap (λ (k : Bool). cond k (change u) (s.pin g i u)) is))
  pin_step g i u t false h is same =
      ap (s.pin g i) same ∙ sym (ex.pin g i u h ∙ ap (λ (k : Bool). cond k (change u) (s.pin g i u)) is)

  pins : (g i : ℕ) (args : List NetId) → g < length c.gates
      → ((k : ℕ) → k < length args → (get_or args k no_net).0 < net_count c)
      → ((k : ℕ) → k < length args → Reads c site (is_pin site g (i + k)) (get_or args k no_net).0)
      → pin_values s g v i (read_args c site g i args) ≡ pin_values r g e i args
  pins g i [] h known here = refl
  pins g i (a ∷ args) h known here =
      let z : i + 0 ≡ i = omega arith in
      let reader : Reads c site (is_pin site g i) a.0 =
      subst (λ (n : ℕ). Reads c site (is_pin site g n) a.0) z (here 0 (omega arith)) in
      let now : s.pin g i (v (read_net c site (is_pin site g i) a).0) ≡ r.pin g i (e a.0) =
      pin_step g i (e a.0) (v (read_net c site (is_pin site g i) a).0) (is_pin site g i) h refl
      (read_here a (is_pin site g i) (known 0 (omega arith)) reader) in
      let rest : pin_values s g v (i + 1) (read_args c site g (i + 1) args) ≡ pin_values r g e (i + 1) args =
      pins g (i + 1) args h (λ k l. known (suc k) (omega arith))
      (λ k l. let y : i + suc k ≡ i + 1 + k = omega arith in
      subst (λ (n : ℕ). Reads c site (is_pin site g n) (get_or args k no_net).0) y (here (suc k) (omega arith))) in
      cc

  old_output : (g : ℕ) → g < length c.gates → gate_output big s v g ≡ gate_output c r e g
  unfolding gate_output
  old_output g h =
      let z : 0 + g ≡ g = omega arith in
      let is : gate_at big g ≡ read_gate c site g (gate_at c g) =
      old_gate c site 0 c.gates g h ∙ ap (λ (n : ℕ). read_gate c site n (gate_at c g)) z in
      let read : pin_values s g v 0 (read_args c site g 0 (gate_at c g).args) ≡ pin_values r g e 0 (gate_at c g).args =
      pins g 0 (gate_at c g).args h (λ k l. deep.known g k h l)
      (λ k l. let y : k ≡ 0 + k = omega arith in
      subst (λ (n : ℕ). Reads c site (is_pin site g n) (arg_at c g k)) y (pin_reads c site g k)) in
      ap (λ (gate : Gate). s.gate gate.kind (pin_values s g v 0 gate.args)) is
      ∙ (ex.same_gate (gate_at c g).kind (pin_values s g v 0 (read_args c site g 0 (gate_at c g).args))
      ∙ ap (r.gate (gate_at c g).kind) read)

  carried_here : v (moved c (carrier_of c site)) ≡ carried c r vector latches site
  carried_here = carries c site r s vector latches before change own ex.stem_free inside

  second_output : gate_output big s v (suc (length c.gates)) ≡ both c site r s vector latches before
  unfolding gate_output
  second_output =
      let g : ℕ = suc (length c.gates) in
      ap (λ (gate : Gate). s.gate gate.kind (pin_values s g v 0 gate.args)) (second_new_gate c site 0 c.gates)
      ∙ (ap (λ (u : V). s.gate And (s.pin g 0 u ∷ s.pin g 1 (v (before_net c)) ∷ [])) carried_here
      ∙ ap (λ (u : V). s.gate And (s.pin g 0 (carried c r vector latches site) ∷ s.pin g 1 u ∷ []))
      (wide_before c site r s vector latches before change))

  first_output : gate_output big s v (length c.gates) ≡ change (carried c r vector latches site)
  unfolding gate_output
  first_output =
      let g : ℕ = length c.gates in
      ap (λ (gate : Gate). s.gate gate.kind (pin_values s g v 0 gate.args)) (first_new_gate c site 0 c.gates)
      ∙ (ap (λ (u : V). s.gate Or (s.pin g 0 u ∷ s.pin g 1 (v (both_net c)) ∷ [])) carried_here
      ∙ (ap (λ (u : V). s.gate Or (s.pin g 0 (carried c r vector latches site) ∷ s.pin g 1 u ∷ []))
      (wide_both c site r s vector latches before change)
      ∙ ex.line (carried c r vector latches site)))

  first_is : first_gate_net big ≡ suc (first_gate_net c)
  first_is = let d = dffs_length c site 0 c.dffs in omega (arith, d)

  count_is : net_count big ≡ net_count c + 3
  count_is = let d = dffs_length c site 0 c.dffs in let g = gates_length c site 0 c.gates in omega (arith, d, g)

  latch_at : (k : ℕ) (d : V) → k < length c.dffs → get_or state k d ≡ get_or latches k d
  latch_at k d h = get_or_append_left latches (before ∷ []) d k (omega (arith, many))

  last_latch : (d : V) → get_or state (length c.dffs) d ≡ before
  last_latch d = get_or_at latches before [] d (length c.dffs) many

  -- what the driver of net n gives it in the expanded circuit
  abbrev drive : ℕ → V
  drive n = driver_value big s vector state v n

  driven_by_input : (n : ℕ) → n < c.inputs → given c r vector latches n ≡ drive n
  driven_by_input n h =
      let low : given c r vector latches n ≡ get_or vector n r.blank = driven_input c r vector latches e n h in
      let high : drive n ≡ get_or vector n s.blank = driven_input big s vector state v n h in
      low ∙ (ap (λ (d : V). get_or vector n d) (sym ex.same_blank) ∙ sym high)

  driven_by_latch : (n : ℕ) → c.inputs ≤ n → n < first_gate_net c → given c r vector latches n ≡ drive n
  driven_by_latch n at h =
      let f = first_is in
      let low : given c r vector latches n ≡ get_or latches (n - c.inputs) r.blank =
      driven_latch c r vector latches e n at h in
      let high : drive n ≡ get_or state (n - c.inputs) s.blank =
      driven_latch big s vector state v n at (omega (arith, f)) in
      low ∙ (ap (λ (d : V). get_or latches (n - c.inputs) d) (sym ex.same_blank)
      ∙ (sym (latch_at (n - c.inputs) s.blank (omega arith)) ∙ sym high))

  driven_by_before : (n : ℕ) → n ≡ first_gate_net c → before ≡ drive n
  driven_by_before n is =
      let f = first_is in
      let k : n - c.inputs ≡ length c.dffs = omega (arith, is) in
      let high : drive n ≡ get_or state (n - c.inputs) s.blank =
      driven_latch big s vector state v n (omega (arith, is)) (omega (arith, f, is)) in
      sym (high ∙ (ap (λ (m : ℕ). get_or state m s.blank) k ∙ last_latch s.blank))

  by_gate : (n : ℕ) → first_gate_net big ≤ n → drive n ≡ gate_output big s v (n - suc (first_gate_net c))
  by_gate n at = driven_gate big s vector state v n at
      ∙ ap (λ (m : ℕ). gate_output big s v (n - m)) first_is

  driven_by_old_gate : (x : ℕ) → first_gate_net c ≤ x → x < net_count c → given c r vector latches x ≡ drive (suc x)
  driven_by_old_gate x at h =
      let f = first_is in
      let m : x - first_gate_net c ≡ suc x - suc (first_gate_net c) = omega arith in
      driven_gate c r vector latches e x at
      ∙ (ap (λ (g : ℕ). gate_output c r e g) m
      ∙ (sym (old_output (suc x - suc (first_gate_net c)) (omega arith)) ∙ sym (by_gate (suc x) (omega (arith, f)))))

  driven_by_line : change (carried c r vector latches site) ≡ drive (line_net c)
  driven_by_line =
      let f = first_is in
      let m : line_net c - suc (first_gate_net c) ≡ length c.gates = omega arith in
      sym (by_gate (line_net c) (omega (arith, f))
      ∙ (ap (λ (g : ℕ). gate_output big s v g) m ∙ first_output))

  driven_by_both : both c site r s vector latches before ≡ drive (both_net c)
  driven_by_both =
      let f = first_is in
      let m : both_net c - suc (first_gate_net c) ≡ suc (length c.gates) = omega arith in
      sym (by_gate (both_net c) (omega (arith, f))
      ∙ (ap (λ (g : ℕ). gate_output big s v g) m ∙ second_output))

  -- a driver of the circuit gives the same in the expanded one
  driven_moved : (x : ℕ) → x < net_count c → given c r vector latches x ≡ drive (moved c x)
  driven_moved x h = elim (le_or_lt (first_gate_net c) x) [
    | inl at ↦ driven_by_old_gate x at h ∙ ap drive (sym (moved_high c site r s vector latches before change x at))
    | inr low ↦ (elim (le_or_lt c.inputs x) [
      | inl k ↦ driven_by_latch x k low
      | inr k ↦ driven_by_input x k
    ]) ∙ ap drive (sym (moved_low c site r s vector latches before change x low))
  ]

  -- each net of the expanded circuit is one that was moved, or one of the three
  settled_moved : (x : ℕ) → x < net_count c → v (moved c x) ≡ s.stem (moved c x) (drive (moved c x))
  settled_moved x h = wide_moved c site r s vector latches before change x h
      ∙ ap (s.stem (moved c x)) (driven_moved x h)

  settled_before : v (before_net c) ≡ s.stem (before_net c) (drive (before_net c))
  settled_before = wide_before c site r s vector latches before change
      ∙ (driven_by_before (before_net c) refl ∙ sym (ex.before_free (drive (before_net c))))

  settled_line : v (line_net c) ≡ s.stem (line_net c) (drive (line_net c))
  settled_line = wide_line c site r s vector latches before change
      ∙ (driven_by_line ∙ sym (ex.line_free (drive (line_net c))))

  settled_both : v (both_net c) ≡ s.stem (both_net c) (drive (both_net c))
  settled_both = wide_both c site r s vector latches before change
      ∙ (driven_by_both ∙ sym (ex.both_free (drive (both_net c))))

  abbrev Settled : ℕ → Type 0
  Settled n = v n ≡ s.stem n (drive n)

  settled_at : (n : ℕ) → n < net_count big → Settled n
  settled_at n h =
      let t = count_is in
      elim (le_or_lt (suc (first_gate_net c)) n) [
        | inr low ↦ elim (le_or_lt (first_gate_net c) n) [
          | inl l ↦ let is : before_net c ≡ n = omega arith in subst Settled is settled_before
          | inr l ↦ subst Settled (moved_low c site r s vector latches before change n l)
              (settled_moved n (omega arith))
        ]
        | inl at ↦ elim (le_or_lt (suc (net_count c)) n) [
          | inr old ↦
              let is : suc (n - 1) ≡ n = omega arith in
              let m : moved c (n - 1) ≡ n =
              moved_high c site r s vector latches before change (n - 1) (omega arith) ∙ is in
              subst Settled m (settled_moved (n - 1) (omega arith))
          | inl new ↦ elim (eqb_tells n (suc (net_count c))) [
            | inl p ↦ subst Settled (sym p.1) settled_line
            | inr p ↦ let is : both_net c ≡ n = omega (arith, t, p.1) in subst Settled is settled_both
          ]
        ]
      ]

  settled : IsSettled big s vector state v
  unfolding net_value_over
  settled = record { settled = settled_at }

  module _ (wide_depth : ℕ → ℕ) (wide_deep : IsDepth big wide_depth) where
    -- each net of the expanded circuit
    is_wide : (n : ℕ) → n < net_count big → net_value big s vector state n ≡ v n
    is_wide n h = sym (settled_is_frame big wide_depth wide_deep s vector state v settled n h)

    moved_known : (x : ℕ) → x < net_count c → moved c x < net_count big
    moved_known x h = let t = count_is in grind (arith, nat_tests)

    read_below : (a : NetId) (at : Bool) → a.0 < net_count c → (read_net c site at a).0 < net_count big
    read_below a true h = let t = count_is in grind (arith, nat_tests)
    read_below a false h = let t = count_is in grind (arith, nat_tests)

    shown : (xs : List NetId) → ((o : ℕ) → o < length xs → (get_or xs o no_net).0 < net_count c)
        → values_at (net_value big s vector state) (map (read_net c site false) xs) ≡ values_at e xs
    shown [] known = refl
    shown (a ∷ xs) known =
        let h : a.0 < net_count c = known 0 (omega arith) in
        let here : net_value big s vector state (read_net c site false a).0 ≡ e a.0 =
        is_wide (read_net c site false a).0 (read_below a false h) ∙ read_here a false h (output_reads c site a.0) in
        let rest : values_at (net_value big s vector state) (map (read_net c site false) xs) ≡ values_at e xs =
        shown xs (λ o l. known (suc o) (omega arith)) in
        cc

    data_step : (j : ℕ) (u w : V) (b : Bool) → j < length c.dffs → is_data_pin site j ≡ b → w ≡ cond b (change u) u
        → s.data_pin j w ≡ r.data_pin j u
    data_step j u w true h is same =
        ap (s.data_pin j) same
        ∙ (ex.data_free j (change u) h is
        ∙ sym (ex.data_on j u h ∙ ap (λ (k : Bool). cond k (change u) (s.data_pin j u)) is))
    data_step j u w false h is same =
        ap (s.data_pin j) same ∙ sym (ex.data_on j u h ∙ ap (λ (k : Bool). cond k (change u) (s.data_pin j u)) is)

    taken : (j : ℕ) (ds : List NetId) → j + length ds ≡ length c.dffs
        → ((o : ℕ) → o < length ds → (get_or ds o no_net).0 < net_count c)
        → ((o : ℕ) → o < length ds → Reads c site (is_data_pin site (j + o)) (get_or ds o no_net).0)
        → data_values s (net_value big s vector state) j (read_dffs c site j ds)
        ≡ data_values r e j ds ++ carried c r vector latches site ∷ []
    taken j [] total known here =
        let t = count_is in
        let at : ℕ = moved c (carrier_of c site) in
        let below : at < net_count big = grind (arith, nat_tests) in
        let last : j ≡ length c.dffs = omega (arith, total) in
        ap (λ (u : V). u ∷ []) (ap (λ (n : ℕ). s.data_pin n (net_value big s vector state at)) last
        ∙ (ex.data_off (net_value big s vector state at)
        ∙ (is_wide at below ∙ carried_here)))
    taken j (a ∷ ds) total known here =
        let h : a.0 < net_count c = known 0 (omega arith) in
        let z : j + 0 ≡ j = omega arith in
        let reader : Reads c site (is_data_pin site j) a.0 =
        subst (λ (n : ℕ). Reads c site (is_data_pin site n) a.0) z (here 0 (omega arith)) in
        let x : NetId = read_net c site (is_data_pin site j) a in
        let now : s.data_pin j (net_value big s vector state x.0) ≡ r.data_pin j (e a.0) =
        data_step j (e a.0) (net_value big s vector state x.0) (is_data_pin site j) (omega (arith, total)) refl
        (is_wide x.0 (read_below a (is_data_pin site j) h) ∙ read_here a (is_data_pin site j) h reader) in
        let rest : data_values s (net_value big s vector state) (j + 1) (read_dffs c site (j + 1) ds)
        ≡ data_values r e (j + 1) ds ++ carried c r vector latches site ∷ [] =
        taken (j + 1) ds (omega (arith, total)) (λ o l. known (suc o) (omega arith))
        (λ o l. let y : j + suc o ≡ j + 1 + o = omega arith in
        subst (λ (n : ℕ). Reads c site (is_data_pin site n) (get_or ds o no_net).0) y (here (suc o) (omega arith))) in
        cc

    -- One frame of the expanded machine shows what one frame of the machine with the changed line shows.
    pub frame_shows : ((o : ℕ) → o < length c.outputs → (get_or c.outputs o no_net).0 < net_count c)
        → frame_outputs big s vector state ≡ frame_outputs c r vector latches
    unfolding frame_outputs
    frame_shows known = shown c.outputs known

    -- It leaves the same latches, and in the new flip-flop what the line carried.
    pub frame_takes : ((j : ℕ) → j < length c.dffs → (get_or c.dffs j no_net).0 < net_count c)
        → next_state big s vector state ≡ next_state c r vector latches ++ carried c r vector latches site ∷ []
    unfolding next_state
    frame_takes known = taken 0 c.dffs (omega arith) known
        (λ o l. let y : o ≡ 0 + o = omega arith in
        subst (λ (n : ℕ). Reads c site (is_data_pin site n) (get_or c.dffs o no_net).0) y (data_reads c site o))

    -- what a driver gives goes by the nets that it reads
    drive_same : (n : ℕ) → n < net_count big
        → driver_value big s vector state (net_value big s vector state) n ≡ drive n
    drive_same n h = elim (le_or_lt (first_gate_net big) n) [
      | inl at ↦
          let g : ℕ = n - first_gate_net big in
          driven_gate big s vector state (net_value big s vector state) n at
          ∙ (gate_same big s (net_value big s vector state) v g
          (λ i l. is_wide (get_or (gate_at big g).args i no_net).0 (wide_deep.known g i (omega arith) l))
          ∙ sym (driven_gate big s vector state v n at))
      | inr low ↦ elim (le_or_lt big.inputs n) [
        | inl at ↦ driven_latch big s vector state (net_value big s vector state) n at low
            ∙ sym (driven_latch big s vector state v n at low)
        | inr l ↦ driven_input big s vector state (net_value big s vector state) n l
            ∙ sym (driven_input big s vector state v n l)
      ]
    ]

    given_alike : (x : ℕ) → x < net_count c
        → driver_value big s vector state (net_value big s vector state) (moved c x) ≡ given c r vector latches x
    given_alike x h = drive_same (moved c x) (moved_known x h) ∙ sym (driven_moved x h)

    -- where the line is changed in nothing, what a load reads has the value of its net
    read_alike : ((u : V) → change u ≡ u) → (a : NetId) (at : Bool) → a.0 < net_count c → Reads c site at a.0
        → net_value big s vector state (read_net c site at a).0 ≡ e a.0
    read_alike keep a at h reader = is_wide (read_net c site at a).0 (read_below a at h)
        ∙ (read_here a at h reader ∙ either_way (change (e a.0)) (e a.0) at (keep (e a.0)))

    -- Where the line is changed in nothing, each line carries the same in the expanded machine.
    pub carried_alike : ((u : V) → change u ≡ u)
        → ((j : ℕ) → j < length c.dffs → (get_or c.dffs j no_net).0 < net_count c)
        → (line : Site) → IsLine c line
        → carried big s vector state (moved_line c line) ≡ carried c r vector latches line
    carried_alike keep known (Stem x) h = given_alike x.0 h
    carried_alike keep known (DffPin j) h =
        ap (net_value big s vector state) (old_dff_is c site names j h)
        ∙ read_alike keep (get_or c.dffs j no_net) (is_data_pin site j) (known j h) (data_reads c site j)
    carried_alike keep known (GatePin g i) h =
        ap (net_value big s vector state) (old_arg_is c site names depth deep inside g i h.0 h.1)
        ∙ read_alike keep (get_or (gate_at c g).args i no_net) (is_pin site g i) (deep.known g i h.0 h.1)
        (pin_reads c site g i)
