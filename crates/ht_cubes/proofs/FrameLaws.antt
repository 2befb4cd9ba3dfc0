-- The clauses of a frame are true of each frame of both machines.
use Rattle.std.proofs.Common.{◌≡◌, ◌<◌, ◌≤◌, ◌+◌, ◌-◌, ◌*◌, ◌/◌, ◌%◌, ℕ, suc, zero, List, [], ◌∷◌, ◌++◌, map, Bool, true, false, not, length, get_or, refl, sym, ◌∙◌, ap, arith, inl, inr}
use Rattle.std.specs.Prelude.{if◌then◌else◌, nat_lt, nat_eq, ◌&&◌}
use Rattle.std.specs.List.{All, list_any, flat_map, range_with_len}
use Rattle.std.proofs.lemmas.Nat.{div-mul-add, mod-mul-add}
use Rattle.std.proofs.lemmas.Bool.{cases_Bool, cond_both, cond-true, cond-false, lt-ltb, le-ltb}
use Rattle.std.proofs.lemmas.List.Elements.{All-nil, All-cons, All-append, All-map}
use Rattle.ht_tern.specs.declared.tern.Tern.{Tern}
use Rattle.ht_tern.specs.declared.tern.Tern.TheVariants.{Zero, One, Unk}
use Rattle.ht_tern.specs.Gate.{tern_of, gate_value, AllRelated}
use Rattle.ht_tern.specs.Opposite.{Opposite}
use Rattle.ht_net.specs.declared.net.NetId.{NetId}
use Rattle.ht_net.specs.declared.fault.Fault.{Fault}
use Rattle.ht_net.specs.declared.fault.Site.{Site}
use Rattle.ht_net.specs.Circuit.Netlist.{Netlist, IsCircuit, first_gate_net, net_count, gate_at, no_net}
use Rattle.ht_net.specs.Frames.Frame.{Rules, pin_values, gate_output, driver_value, net_value_over, net_value, next_state}
use Rattle.ht_net.specs.Frames.Faults.{forced, tern_rules, is_stem, is_pin, is_data_pin}
use Rattle.ht_net.specs.Detect.Detection.{terns_of}
use Rattle.ht_net.proofs.DepthLaws.{circuit_depth}
use Rattle.ht_net.proofs.FrameLaws.{frame_settled, driven_latch, driven_gate}
use Rattle.ht_net.proofs.FaultLaws.{forced_related}
use Rattle.ht_net.proofs.ValueLaws.{taken_get}
use Rattle.ht_cubes.specs.declared.rail.Rail.{Rail}
use Rattle.ht_cubes.specs.declared.signed_var.SignedVar.{SignedVar}
use Rattle.ht_cubes.specs.declared.signal.Signal.{Signal}
use Rattle.ht_cubes.specs.Rails.{JointState, latches_of, stuck_line, Holds, Avoids, AgreesOutside, Encloses, IsKnownRail}
use Rattle.ht_cubes.specs.Cubes.{next_joint}
use Rattle.ht_cubes.specs.Formula.{complement, bit_number, rail_variable, rail_of, stuck_signal, driver_signal, signal_rules, net_signal, pin_signals, latch_signal, next_signal, either_clauses, input_clauses, latch_clauses, machine_clauses, is_doubled, both_clauses, frame_clauses, cube_clause, next_target, differs_target}
use Rattle.ht_cubes.proofs.OutsideLaws.{driven_outside}
use Rattle.ht_cubes.proofs.MeaningLaws.{truth_of, IsTrueClause, AreTrueClauses, denied_fails}
use Rattle.ht_cubes.proofs.GateLaws.{is_definitely, Tells, tells_stuck, either_true, gate_true, is_definite, definite_is}

-- What a frame makes of the variables: the constant, the rails of the good and of the faulty machine by what drives the
-- nets, and the targets.
unfoldable pub frame_values : ℕ → (Bool → ℕ → Tern) → (ℕ → Bool) → ℕ → Bool
frame_values nets driven comes zero = true
frame_values nets driven comes (suc n) =
    if nat_lt n (nets * 2) then is_definitely (nat_eq (n % 2) 1) (driven false (n / 2))
    else (if nat_lt n (nets * 4) then is_definitely (nat_eq (n % 2) 1) (driven true (n / 2 - nets))
    else comes (suc n))

-- the constant is true
pub always_true : (nets : ℕ) (driven : Bool → ℕ → Tern) (comes : ℕ → Bool) → frame_values nets driven comes 0 ≡ true
unfolding frame_values
always_true nets driven comes = refl

-- the variable of a target
pub target_value : (nets : ℕ) (driven : Bool → ℕ → Tern) (comes : ℕ → Bool) (n : ℕ) → nets * 4 ≤ n
    → frame_values nets driven comes (suc n) ≡ comes (suc n)
unfolding frame_values
target_value nets driven comes n h =
    cond-false (nat_lt n (nets * 2)) _ _ (le-ltb n (nets * 2) (omega arith))
    ∙ cond-false (nat_lt n (nets * 4)) _ _ (le-ltb n (nets * 4) h)

bit_back : (bit : Bool) → nat_eq (bit_number bit) 1 ≡ bit
bit_back true = refl
bit_back false = refl

bit_low : (bit : Bool) → bit_number bit < 2
bit_low true = omega arith
bit_low false = omega arith

module _ (nets : ℕ) (driven : Bool → ℕ → Tern) (comes : ℕ → Bool) where
  at_good : (x : ℕ) (bit : Bool) → x < nets
      → frame_values nets driven comes (suc (x * 2 + bit_number bit)) ≡ is_definitely bit (driven false x)
  unfolding frame_values
  at_good x bit inside =
      let n = x * 2 + bit_number bit in
      let low = bit_low bit in
      let below : n < nets * 2 = omega (arith, low) in
      cond-true (nat_lt n (nets * 2)) _ _ (lt-ltb n (nets * 2) below)
      ∙ (ap (λ (m : ℕ). is_definitely (nat_eq m 1) (driven false (n / 2))) (mod-mul-add x 2 (bit_number bit) low)
      ∙ (ap (λ (y : ℕ). is_definitely (nat_eq (bit_number bit) 1) (driven false y))
      (div-mul-add x 2 (bit_number bit) low)
      ∙ ap (λ (b : Bool). is_definitely b (driven false x)) (bit_back bit)))

  at_faulty : (x : ℕ) (bit : Bool) → x < nets
      → frame_values nets driven comes (suc ((x + nets) * 2 + bit_number bit)) ≡ is_definitely bit (driven true x)
  unfolding frame_values
  at_faulty x bit inside =
      let n = (x + nets) * 2 + bit_number bit in
      let low = bit_low bit in
      let above : nets * 2 ≤ n = omega arith in
      let below : n < nets * 4 = omega (arith, low) in
      let back : x + nets - nets ≡ x = omega arith in
      cond-false (nat_lt n (nets * 2)) _ _ (le-ltb n (nets * 2) above)
      ∙ (cond-true (nat_lt n (nets * 4)) _ _ (lt-ltb n (nets * 4) below)
      ∙ (ap (λ (m : ℕ). is_definitely (nat_eq m 1) (driven true (n / 2 - nets)))
      (mod-mul-add (x + nets) 2 (bit_number bit) low)
      ∙ (ap (λ (y : ℕ). is_definitely (nat_eq (bit_number bit) 1) (driven true (y - nets)))
      (div-mul-add (x + nets) 2 (bit_number bit) low)
      ∙ (ap (λ (y : ℕ). is_definitely (nat_eq (bit_number bit) 1) (driven true y)) back
      ∙ ap (λ (b : Bool). is_definitely b (driven true x)) (bit_back bit)))))

  -- what a frame makes of a rail
  frame_rail : (faulty : Bool) (x : ℕ) (bit : Bool) → x < nets
      → frame_values nets driven comes (rail_variable nets faulty x bit) ≡ is_definitely bit (driven faulty x)
  frame_rail false x bit inside =
      ap (frame_values nets driven comes)
      (let e : 2 * x + bit_number bit + 1 ≡ suc (x * 2 + bit_number bit) = omega arith in e)
      ∙ at_good x bit inside
  frame_rail true x bit inside =
      ap (frame_values nets driven comes)
      (let e : 2 * nets + 2 * x + bit_number bit + 1 ≡ suc ((x + nets) * 2 + bit_number bit) = omega arith in e)
      ∙ at_faulty x bit inside

pins_tell : (values : ℕ → Bool) (r : Rules Signal) (t : Rules Tern) (g : ℕ)
    → ((i : ℕ) (x : Signal) (y : Tern) → Tells values x y → Tells values (r.pin g i x) (t.pin g i y))
    → (e : ℕ → Signal) (f : ℕ → Tern) (i : ℕ) (args : List NetId)
    → ((j : ℕ) → j < length args → Tells values (e (get_or args j no_net).0) (f (get_or args j no_net).0))
    → AllRelated (Tells values) (pin_values r g e i args) (pin_values t g f i args)
pins_tell values r t g keeps e f i [] h = tt
pins_tell values r t g keeps e f i (a ∷ args) h = (
  keeps i (e a.0) (f a.0) (h 0 (omega arith)),
  pins_tell values r t g keeps e f (i + 1) args (λ j l. h (suc j) (omega arith)),
)

-- what holds of each list's clauses, up to the end of a range, holds of those of the range's lists joined
pub flat_true : (P : List SignedVar → Type 0) (f : ℕ → List (List SignedVar)) (a n : ℕ)
    → ((x : ℕ) → x < a + n → All P (f x)) → All P (flat_map f (range_with_len a n))
flat_true P f a zero h = All-nil P
flat_true P f a (suc n) h = All-append P (f a) (flat_map f (range_with_len (a + 1) n)) (h a (omega arith))
    (flat_true P f (a + 1) n (λ x l. h x (omega arith)))

-- what holds of the clauses of each driver and of each gate holds of those of a frame
module _ (c : Netlist) (fault : Fault) (cone : ℕ → Bool) (P : List SignedVar → Type 0)
    (either : (faulty : Bool) (x : ℕ) → x < net_count c → All P (either_clauses (driver_signal c cone faulty x)))
    (machine : (faulty : Bool) (g : ℕ) → g < length c.gates → All P (machine_clauses c fault cone faulty g)) where
  latches_all : (j : ℕ) → j < length c.dffs → All P (latch_clauses c cone j)
  latches_all j inside = All-append P (either_clauses (latch_signal c cone false j)) _
      (either false (c.inputs + j) (omega arith))
      (cond_both (cone (c.inputs + j)) (either_clauses (latch_signal c cone true j)) [] (All P)
      (λ yes. either true (c.inputs + j) (omega arith)) (λ no. All-nil P))

  gates_all : (g : ℕ) → g < length c.gates → All P (both_clauses c fault cone g)
  gates_all g inside = All-append P (machine_clauses c fault cone false g) _ (machine false g inside)
      (cond_both (is_doubled c fault cone g) (machine_clauses c fault cone true g) [] (All P)
      (λ yes. machine true g inside) (λ no. All-nil P))

  -- what holds of the clauses of each driver and of each gate holds of each clause of a frame
  pub frame_all : All P (frame_clauses c fault cone)
  frame_all =
      All-append P
      (flat_map (input_clauses c cone) (range_with_len 0 c.inputs)
      ++ flat_map (latch_clauses c cone) (range_with_len 0 (length c.dffs)))
      (flat_map (both_clauses c fault cone) (range_with_len 0 (length c.gates)))
      (All-append P (flat_map (input_clauses c cone) (range_with_len 0 c.inputs))
      (flat_map (latch_clauses c cone) (range_with_len 0 (length c.dffs)))
      (flat_true P (input_clauses c cone) 0 c.inputs (λ x l. either false x (omega arith)))
      (flat_true P (latch_clauses c cone) 0 (length c.dffs) (λ j l. latches_all j (omega arith))))
      (flat_true P (both_clauses c fault cone) 0 (length c.gates) (λ g l. gates_all g (omega arith)))

module _ (values : ℕ → Bool) (f : Rail → SignedVar) where
  -- a clause that denies rails fails only where all of them are true
  denied_all : (cube : List Rail) → list_any (truth_of values) (map (λ (r : Rail). complement (f r)) cube) ≡ false
      → All (λ (r : Rail). truth_of values (f r) ≡ true) cube
  denied_all [] h = All-nil (λ (r : Rail). truth_of values (f r) ≡ true)
  denied_all (r ∷ cube) h =
      let parts = denied_fails values (f r) (map (λ (q : Rail). complement (f q)) cube) h in
      All-cons (λ (q : Rail). truth_of values (f q) ≡ true) r cube parts.0 (denied_all cube parts.1)

-- two opposite values are a bit and its complement
pub opposite_bits : (t u : Tern) → Opposite t u → (bit : Bool) × (t ≡ tern_of bit) × (u ≡ tern_of (not bit))
opposite_bits Zero One h = (false, refl, refl)
opposite_bits One Zero h = (true, refl, refl)
opposite_bits Zero Zero h = absurd h
opposite_bits Zero Unk h = absurd h
opposite_bits One One h = absurd h
opposite_bits One Unk h = absurd h
opposite_bits Unk Zero h = absurd h
opposite_bits Unk One h = absurd h
opposite_bits Unk Unk h = absurd h

-- all that a target has is true
abbrev pub AllTrue : (ℕ → Bool) → List SignedVar → Type 0
AllTrue values target = All (λ (l : SignedVar). truth_of values l ≡ true) target

module _ (c : Netlist) (circuit : IsCircuit c) (fault : Fault) (cone : ℕ → Bool) (closed : Encloses c fault cone)
    (bits : List Bool) (s : JointState) (agree : AgreesOutside c cone s) where
  abbrev pub rules : Bool → Rules Tern
  rules faulty = tern_rules (stuck_line fault faulty)

  -- the value of a net as its loads see it, and as its driver gives it
  abbrev pub seen : Bool → ℕ → Tern
  seen faulty x = net_value c (rules faulty) (terns_of bits) (latches_of s faulty) x

  abbrev pub driven : Bool → ℕ → Tern
  driven faulty x = driver_value c (rules faulty) (terns_of bits) (latches_of s faulty)
      (net_value c (rules faulty) (terns_of bits) (latches_of s faulty)) x

  shared : (faulty : Bool) (x : ℕ) → x < net_count c → driven (faulty && cone x) x ≡ driven faulty x
  shared false x inside = refl
  shared true x inside = elim (cases_Bool (cone x)) [
    | inl in_it ↦ ap (λ (f : Bool). driven f x) in_it
    | inr out ↦ ap (λ (f : Bool). driven f x) out
        ∙ driven_outside c circuit fault cone closed (terns_of bits) s.good s.faulty agree x inside out
  ]

  settled : (faulty : Bool) (x : ℕ) → x < net_count c → seen faulty x ≡ (rules faulty).stem x (driven faulty x)
  unfolding net_value_over
  settled faulty x inside =
      let deep = circuit_depth c circuit in
      (frame_settled c deep.0 deep.1 (rules faulty) (terns_of bits) (latches_of s faulty)).settled x inside

  gate_driven : (faulty : Bool) (g : ℕ) → driven faulty (first_gate_net c + g)
      ≡ gate_value (gate_at c g).kind (pin_values (rules faulty) g (seen faulty) 0 (gate_at c g).args)
  unfolding gate_output
  gate_driven faulty g =
      driven_gate c (rules faulty) (terns_of bits) (latches_of s faulty) (seen faulty) (first_gate_net c + g)
      (omega arith)
      ∙ ap (λ (h : ℕ). gate_output c (rules faulty) (seen faulty) h)
      (let e : first_gate_net c + g - first_gate_net c ≡ g = omega arith in e)

  next_latches : (faulty : Bool) → latches_of (next_joint c fault bits s) faulty
      ≡ next_state c (rules faulty) (terns_of bits) (latches_of s faulty)
  next_latches true = refl
  next_latches false = refl

  module _ (comes : ℕ → Bool) where
    abbrev pub values : ℕ → Bool
    values = frame_values (net_count c) driven comes

    tells_driver : (faulty : Bool) (x : ℕ) → x < net_count c
        → Tells values (driver_signal c cone faulty x) (driven faulty x)
    tells_driver faulty x inside true = frame_rail (net_count c) driven comes (faulty && cone x) x true inside
        ∙ ap (is_definitely true) (shared faulty x inside)
    tells_driver faulty x inside false = frame_rail (net_count c) driven comes (faulty && cone x) x false inside
        ∙ ap (is_definitely false) (shared faulty x inside)

    -- lines keep what signals tell
    tells_line : (faulty : Bool) (here : Site → Bool) (x : Signal) (t : Tern) → Tells values x t
        → Tells values (forced (λ bit s. stuck_signal bit) (stuck_line fault faulty) here x)
        (forced (λ bit v. tern_of bit) (stuck_line fault faulty) here t)
    tells_line faulty here x t tells = forced_related (Tells values) (λ bit s. stuck_signal bit) (λ bit v. tern_of bit)
        (λ bit y u r. tells_stuck values (always_true (net_count c) driven comes) bit)
        (stuck_line fault faulty) here x t
        tells

    -- the signal of a net tells its value as its loads see it
    pub tells_net : (faulty : Bool) (x : ℕ) → x < net_count c
        → Tells values (net_signal c fault cone faulty x) (seen faulty x)
    tells_net faulty x inside bit =
        tells_line faulty (λ site. is_stem site x) (driver_signal c cone faulty x) (driven faulty x)
        (tells_driver faulty x inside) bit
        ∙ ap (is_definitely bit) (sym (settled faulty x inside))

    tells_pins : (faulty : Bool) (g : ℕ) → g < length c.gates → AllRelated (Tells values)
        (pin_signals c fault cone faulty g) (pin_values (rules faulty) g (seen faulty) 0 (gate_at c g).args)
    tells_pins faulty g inside = pins_tell values (signal_rules fault faulty) (rules faulty) g
        (λ i x t tells. tells_line faulty (λ site. is_pin site g i) x t tells)
        (net_signal c fault cone faulty) (seen faulty) 0 (gate_at c g).args
        (λ j l. tells_net faulty _ (circuit.known g j inside l))

    machine_true : (faulty : Bool) (g : ℕ) → g < length c.gates
        → AreTrueClauses values (machine_clauses c fault cone faulty g)
    machine_true faulty g inside =
        gate_true values (gate_at c g).kind (driver_signal c cone faulty (first_gate_net c + g))
        (pin_signals c fault cone faulty g) (pin_values (rules faulty) g (seen faulty) 0 (gate_at c g).args)
        (tells_pins faulty g inside)
        (λ bit. tells_driver faulty (first_gate_net c + g) (omega arith) bit
        ∙ ap (is_definitely bit) (gate_driven faulty g))

    either_of : (faulty : Bool) (x : ℕ) → x < net_count c
        → AreTrueClauses values (either_clauses (driver_signal c cone faulty x))
    either_of faulty x inside =
        either_true values (driver_signal c cone faulty x) (driven faulty x) (tells_driver faulty x inside)

    -- each clause of the frame is true
    pub frame_true : AreTrueClauses values (frame_clauses c fault cone)
    frame_true = frame_all c fault cone (IsTrueClause values) either_of machine_true

    -- what a latch holds
    tells_latch : (faulty : Bool) (j : ℕ) → j < length c.dffs
        → Tells values (latch_signal c cone faulty j) (get_or (latches_of s faulty) j Unk)
    tells_latch faulty j inside bit =
        let is : c.inputs + j - c.inputs ≡ j = omega arith in
        tells_driver faulty (c.inputs + j) (omega arith) bit
        ∙ ap (is_definitely bit) (driven_latch c (rules faulty) (terns_of bits) (latches_of s faulty) (seen faulty)
        (c.inputs + j) (omega arith) (omega arith) ∙ ap (λ (n : ℕ). get_or (latches_of s faulty) n Unk) is)

    -- the clause of a cube that the state avoids
    pub cube_true : (cube : List Rail) → All (IsKnownRail c cone) cube → Avoids s cube
        → IsTrueClause values (cube_clause c cone cube)
    cube_true cube known avoids = elim (cases_Bool (list_any (truth_of values) (cube_clause c cone cube))) [
      | inl holds ↦ holds
      | inr fails ↦ absurd (avoids (λ k d inside.
          let r = get_or cube k d in
          definite_is r.value (get_or (latches_of s r.faulty) r.dff Unk)
          (sym (tells_latch r.faulty r.dff (known k d inside).0 r.value)
          ∙ denied_all values (λ (q : Rail). rail_of (latch_signal c cone q.faulty q.dff) q.value) cube fails k d
          inside)))
    ]

    -- what a latch takes
    tells_next : (faulty : Bool) (j : ℕ) → j < length c.dffs
        → Tells values (next_signal c fault cone faulty j)
        (get_or (latches_of (next_joint c fault bits s) faulty) j Unk)
    unfolding next_state
    tells_next faulty j inside bit =
        tells_line faulty (λ site. is_data_pin site j) (net_signal c fault cone faulty (get_or c.dffs j no_net).0)
        (seen faulty (get_or c.dffs j no_net).0) (tells_net faulty _ (circuit.data_known j inside)) bit
        ∙ ap (is_definitely bit) (sym (ap (λ (l : List Tern). get_or l j Unk) (next_latches faulty)
        ∙ (taken_get (rules faulty) (seen faulty) 0 c.dffs j Unk inside
        ∙ ap (λ (n : ℕ). (rules faulty).data_pin n (seen faulty (get_or c.dffs j no_net).0))
        (let z : 0 + j ≡ j = omega arith in z))))

    -- where a cube comes about, its target is true
    pub next_true : (cube : List Rail) → All (IsKnownRail c cone) cube → All (Holds (next_joint c fault bits s)) cube
        → AllTrue values (next_target c fault cone cube)
    next_true cube known all =
        All-map (λ (l : SignedVar). truth_of values l ≡ true)
        (λ (q : Rail). rail_of (next_signal c fault cone q.faulty q.dff) q.value) cube
        (λ k d inside. let r = get_or cube k d in
        tells_next r.faulty r.dff (known k d inside).0 r.value
        ∙ (ap (is_definitely r.value) (all k d inside) ∙ is_definite r.value))

    -- where a net differs, its target is true
    pub differs_true : (x : ℕ) (bit : Bool) → x < net_count c → seen false x ≡ tern_of bit
        → seen true x ≡ tern_of (not bit) → AllTrue values (differs_target c fault cone x bit)
    differs_true x bit inside good faulty =
        let T : SignedVar → Type 0 = λ l. truth_of values l ≡ true in
        let here = λ (m : Bool) (b : Bool) (is : seen m x ≡ tern_of b).
        tells_net m x inside b ∙ (ap (is_definitely b) is ∙ is_definite b) in
        All-cons T (rail_of (net_signal c fault cone false x) bit)
        (rail_of (net_signal c fault cone true x) (not bit) ∷ []) (here false bit good)
        (All-cons T (rail_of (net_signal c fault cone true x) (not bit)) [] (here true (not bit) faulty) (All-nil T))
