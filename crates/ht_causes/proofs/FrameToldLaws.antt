-- A frame of a faulty machine whose line carries in the good one nothing that is opposite to the stuck value: from
-- latches that tell all that the good ones tell, each net tells all that it tells in the good machine.
use Rattle.std.proofs.Common.{◌≡◌, ◌<◌, ◌≤◌, ◌+◌, ◌-◌, ◌∙◌, inl, inr, ℕ, suc, zero, List, [], ◌∷◌, Bool, true, false, Some, None, cond, length, get_or, refl, sym, ap, subst, arith}
use Rattle.std.specs.Prelude.{eqb}
use Rattle.std.proofs.lemmas.Bool.{and_parts}
use Rattle.std.proofs.lemmas.Bool.Decides.{eqb_tells}
use Rattle.ht_tern.specs.declared.tern.Tern.{Tern}
use Rattle.ht_tern.specs.declared.tern.Tern.TheVariants.{Zero, One, Unk}
use Rattle.ht_tern.specs.Gate.{AllRelated, Refines, tern_of}
use Rattle.ht_tern.specs.Opposite.{are_opposite}
use Rattle.ht_tern.proofs.GateLaws.{gate_refines}
use Rattle.ht_net.specs.declared.net.NetId.{NetId}
use Rattle.ht_net.specs.declared.fault.Site.{Site}
use Rattle.ht_net.specs.declared.fault.Site.TheVariants.{Stem, DffPin, GatePin}
use Rattle.ht_net.specs.declared.fault.Fault.{Fault}
use Rattle.ht_net.specs.Circuit.Netlist.{Netlist, first_gate_net, net_count, gate_at, arg_at, no_net, IsCircuit}
use Rattle.ht_net.specs.Frames.Frame.{pin_values, gate_output, driver_value, net_value_over, net_value, frame_outputs, next_state, values_at, data_values}
use Rattle.ht_net.specs.Frames.Faults.{forced, is_data_pin, is_pin, is_stem, tern_rules}
use Rattle.ht_net.proofs.Depth.{IsDepth}
use Rattle.ht_net.proofs.DepthLaws.{circuit_depth}
use Rattle.ht_net.proofs.FrameLaws.{arg_lower, driven_gate, driven_input, driven_latch, le_or_lt}
use Rattle.ht_net.proofs.RelationLaws.{get_related}
use Rattle.ht_stems.specs.Arrivals.{net_of_line}
use Rattle.ht_stems.proofs.ForcedLaws.{frame_over}

-- ---- lines

eqb_same : (a b : ℕ) → eqb a b ≡ true → a ≡ b
eqb_same a b h = elim (eqb_tells a b) [
  | inl p ↦ p.1
  | inr p ↦ let no : eqb a b ≡ false = p.0 in cc
]

-- the line of a site is that of the net, the pin or the data pin that is the site
pub stem_line : (c : Netlist) (site : Site) (x : ℕ) → is_stem site x ≡ true → (net_of_line c site).0 ≡ x
stem_line c (Stem y) x h = sym (eqb_same x y.0 h)
stem_line c (DffPin k) x h = cc
stem_line c (GatePin g i) x h = cc

pub pin_line : (c : Netlist) (site : Site) (g i : ℕ) → is_pin site g i ≡ true
    → (net_of_line c site).0 ≡ arg_at c g i
pin_line c (Stem y) g i h = cc
pin_line c (DffPin k) g i h = cc
pin_line c (GatePin f k) g i h =
    let parts = and_parts (eqb g f) (eqb i k) h in
    let gate : g ≡ f = eqb_same g f parts.0 in
    let pin : i ≡ k = eqb_same i k parts.1 in
    sym (ap (λ (n : ℕ). arg_at c n i) gate ∙ ap (arg_at c f) pin)

pub data_line : (c : Netlist) (site : Site) (j : ℕ) → is_data_pin site j ≡ true
    → (net_of_line c site).0 ≡ (get_or c.dffs j no_net).0
data_line c (Stem y) j h = cc
data_line c (DffPin k) j h = sym (ap (λ (n : ℕ). (get_or c.dffs n no_net).0) (eqb_same j k h))
data_line c (GatePin g i) j h = cc

-- where a value isn't opposite to a bit, the bit tells all that the value tells
pub bit_tells : (v : Tern) (b : Bool) → are_opposite v (tern_of b) ≡ false → Refines (tern_of b) v
bit_tells Zero false h = inr refl
bit_tells Zero true h = cc
bit_tells One false h = cc
bit_tells One true h = inr refl
bit_tells Unk b h = inl refl

-- what a forced line gives tells all that a value tells, where the stuck value does and what goes in does
forced_tells : (b : Bool) (stuck v w : Tern) → (b ≡ true → Refines stuck w) → Refines v w → Refines (cond b stuck v) w
forced_tells true stuck v w h k = h refl
forced_tells false stuck v w h k = k

-- ---- the frame

module _ (c : Netlist) (circuit : IsCircuit c) (fault : Fault) (vector good faulty : List Tern)
    (told : AllRelated Refines faulty good)
    (calm : are_opposite (net_value c (tern_rules None) vector good (net_of_line c fault.site).0) (tern_of fault.value)
    ≡ false) where
  abbrev carried : Tern
  carried = net_value c (tern_rules None) vector good (net_of_line c fault.site).0

  -- the stuck value tells all that the line's net tells in the good machine
  stuck_tells : (x : ℕ) → (net_of_line c fault.site).0 ≡ x
      → Refines (tern_of fault.value) (net_value c (tern_rules None) vector good x)
  stuck_tells x at = subst (λ (n : ℕ). Refines (tern_of fault.value) (net_value c (tern_rules None) vector good n)) at
      (bit_tells carried fault.value calm)

  stem_tells : (x : ℕ) (v : Tern) → Refines v (net_value c (tern_rules None) vector good x)
      → Refines ((tern_rules (Some fault)).stem x v) (net_value c (tern_rules None) vector good x)
  unfolding forced
  stem_tells x v h =
      forced_tells (is_stem fault.site x) (tern_of fault.value) v _
      (λ is. stuck_tells x (stem_line c fault.site x is)) h

  pin_tells : (g i : ℕ) (v : Tern) → Refines v (net_value c (tern_rules None) vector good (arg_at c g i))
      → Refines ((tern_rules (Some fault)).pin g i v) (net_value c (tern_rules None) vector good (arg_at c g i))
  unfolding forced
  pin_tells g i v h =
      forced_tells (is_pin fault.site g i) (tern_of fault.value) v _
      (λ is. stuck_tells (arg_at c g i) (pin_line c fault.site g i is)) h

  data_tells : (j : ℕ) (v : Tern) → Refines v (net_value c (tern_rules None) vector good (get_or c.dffs j no_net).0)
      → Refines ((tern_rules (Some fault)).data_pin j v)
      (net_value c (tern_rules None) vector good (get_or c.dffs j no_net).0)
  unfolding forced
  data_tells j v h =
      forced_tells (is_data_pin fault.site j) (tern_of fault.value) v _
      (λ is. stuck_tells (get_or c.dffs j no_net).0 (data_line c fault.site j is)) h

  -- the pins of gate g from pin i on
  pins_tell : (g i : ℕ) (args : List NetId)
      → ((k : ℕ) → k < length args → (get_or args k no_net).0 ≡ arg_at c g (i + k))
      → ((k : ℕ) → k < length args
      → Refines (net_value c (tern_rules (Some fault)) vector faulty (get_or args k no_net).0)
      (net_value c (tern_rules None) vector good (get_or args k no_net).0))
      → AllRelated Refines
      (pin_values (tern_rules (Some fault)) g (net_value c (tern_rules (Some fault)) vector faulty) i args)
      (pin_values (tern_rules None) g (net_value c (tern_rules None) vector good) i args)
  unfolding forced
  pins_tell g i [] at h = tt
  pins_tell g i (a ∷ args) at h =
      let first : a.0 ≡ arg_at c g i =
      at 0 (omega arith) ∙ ap (arg_at c g) (let e : i + 0 ≡ i = omega arith in e) in
      let here : Refines (net_value c (tern_rules (Some fault)) vector faulty a.0)
      (net_value c (tern_rules None) vector good a.0) = h 0 (omega arith) in (
        subst (λ (n : ℕ). Refines
            ((tern_rules (Some fault)).pin g i (net_value c (tern_rules (Some fault)) vector faulty a.0))
            (net_value c (tern_rules None) vector good n)) (sym first)
            (pin_tells g i (net_value c (tern_rules (Some fault)) vector faulty a.0)
            (subst (λ (n : ℕ). Refines (net_value c (tern_rules (Some fault)) vector faulty a.0)
            (net_value c (tern_rules None) vector good n)) first here)),
        pins_tell g (i + 1) args
            (λ k less. at (suc k) (omega arith) ∙ ap (arg_at c g) (let e : i + suc k ≡ i + 1 + k = omega arith in e))
            (λ k less. h (suc k) (omega arith)),
      )

  -- what drives a net tells all that it tells in the good machine, where the arguments of its gate do
  driver_tells : (x : ℕ) → ((j : ℕ) → first_gate_net c ≤ x → j < length (gate_at c (x - first_gate_net c)).args
      → Refines (net_value c (tern_rules (Some fault)) vector faulty (arg_at c (x - first_gate_net c) j))
      (net_value c (tern_rules None) vector good (arg_at c (x - first_gate_net c) j)))
      → Refines
      (driver_value c (tern_rules (Some fault)) vector faulty (net_value c (tern_rules (Some fault)) vector faulty) x)
      (driver_value c (tern_rules None) vector good (net_value c (tern_rules None) vector good) x)
  unfolding gate_output
  driver_tells x h =
      let F = net_value c (tern_rules (Some fault)) vector faulty in
      let G = net_value c (tern_rules None) vector good in
      elim (le_or_lt (first_gate_net c) x) [
        | inl at ↦
            let g = x - first_gate_net c in
            rw (
              driven_gate c (tern_rules (Some fault)) vector faulty F x at,
              driven_gate c (tern_rules None) vector good G x at,
            )
            (gate_refines (gate_at c g).kind _ _ (pins_tell g 0 (gate_at c g).args (λ k less.
            ap (arg_at c g) (let e : k ≡ 0 + k = omega arith in e)) (λ k less. h k at less)))
        | inr low ↦ elim (le_or_lt c.inputs x) [
          | inl at ↦
              rw (
                driven_latch c (tern_rules (Some fault)) vector faulty F x at low,
                driven_latch c (tern_rules None) vector good G x at low,
              )
              (get_related Refines faulty good (x - c.inputs) Unk Unk told (inr refl))
          | inr input ↦
              rw (
                driven_input c (tern_rules (Some fault)) vector faulty F x input,
                driven_input c (tern_rules None) vector good G x input,
              )
              (inr refl)
        ]
      ]

  net_tells_below : (depth : ℕ → ℕ) → IsDepth c depth → (k x : ℕ) → x < net_count c → depth x < k
      → Refines (net_value c (tern_rules (Some fault)) vector faulty x) (net_value c (tern_rules None) vector good x)
  unfolding net_value_over forced
  net_tells_below depth deep zero x inside low = absurd (omega arith)
  net_tells_below depth deep (suc k) x inside low =
      let F = net_value c (tern_rules (Some fault)) vector faulty in
      let G = net_value c (tern_rules None) vector good in
      let is_good : G x ≡ driver_value c (tern_rules None) vector good G x =
      frame_over c circuit vector good (tern_rules None) x inside in
      let is_faulty : F x
      ≡ (tern_rules (Some fault)).stem x (driver_value c (tern_rules (Some fault)) vector faulty F x) =
      frame_over c circuit vector faulty (tern_rules (Some fault)) x inside in
      let driven = driver_tells x (λ j at less.
      let lower = arg_lower c depth deep x j inside at less in
      net_tells_below depth deep k _ lower.0 (omega (arith, lower.1))) in
      subst (λ (v : Tern). Refines v (G x)) (sym is_faulty)
      (stem_tells x (driver_value c (tern_rules (Some fault)) vector faulty F x)
      (subst (λ (v : Tern). Refines (driver_value c (tern_rules (Some fault)) vector faulty F x) v) (sym is_good)
      driven))

  -- each net of the faulty machine tells all that it tells in the good one
  pub net_tells : (x : ℕ) → x < net_count c
      → Refines (net_value c (tern_rules (Some fault)) vector faulty x) (net_value c (tern_rules None) vector good x)
  net_tells x inside =
      let deep = circuit_depth c circuit in
      net_tells_below deep.0 deep.1 (suc (deep.0 x)) x inside (omega arith)

  seen_tell : (xs : List NetId) → ((o : ℕ) → o < length xs → (get_or xs o no_net).0 < net_count c)
      → AllRelated Refines (values_at (net_value c (tern_rules (Some fault)) vector faulty) xs)
      (values_at (net_value c (tern_rules None) vector good) xs)
  seen_tell [] known = tt
  seen_tell (x ∷ xs) known =
      (net_tells x.0 (known 0 (omega arith)), seen_tell xs (λ o less. known (suc o) (omega arith)))

  -- and so does each output
  pub outputs_tell : AllRelated Refines (frame_outputs c (tern_rules (Some fault)) vector faulty)
      (frame_outputs c (tern_rules None) vector good)
  unfolding frame_outputs
  outputs_tell = seen_tell c.outputs circuit.outputs_known

  taken_tell : (j : ℕ) (xs : List NetId)
      → ((k : ℕ) → k < length xs → (get_or xs k no_net).0 ≡ (get_or c.dffs (j + k) no_net).0)
      → ((k : ℕ) → k < length xs → (get_or xs k no_net).0 < net_count c)
      → AllRelated Refines
      (data_values (tern_rules (Some fault)) (net_value c (tern_rules (Some fault)) vector faulty) j xs)
      (data_values (tern_rules None) (net_value c (tern_rules None) vector good) j xs)
  unfolding forced
  taken_tell j [] at known = tt
  taken_tell j (x ∷ xs) at known =
      let first : x.0 ≡ (get_or c.dffs j no_net).0 =
      at 0 (omega arith) ∙ ap (λ (n : ℕ). (get_or c.dffs n no_net).0) (let e : j + 0 ≡ j = omega arith in e) in
      let here : Refines (net_value c (tern_rules (Some fault)) vector faulty x.0)
      (net_value c (tern_rules None) vector good x.0) = net_tells x.0 (known 0 (omega arith)) in (
        subst (λ (n : ℕ). Refines
            ((tern_rules (Some fault)).data_pin j (net_value c (tern_rules (Some fault)) vector faulty x.0))
            (net_value c (tern_rules None) vector good n)) (sym first)
            (data_tells j (net_value c (tern_rules (Some fault)) vector faulty x.0)
            (subst (λ (n : ℕ). Refines (net_value c (tern_rules (Some fault)) vector faulty x.0)
            (net_value c (tern_rules None) vector good n)) first here)),
        taken_tell (j + 1) xs
            (λ k less. at (suc k) (omega arith)
            ∙ ap (λ (n : ℕ). (get_or c.dffs n no_net).0) (let e : j + suc k ≡ j + 1 + k = omega arith in e))
            (λ k less. known (suc k) (omega arith)),
      )

  -- and what each flip-flop takes
  pub next_tells : AllRelated Refines (next_state c (tern_rules (Some fault)) vector faulty)
      (next_state c (tern_rules None) vector good)
  unfolding next_state
  next_tells = taken_tell 0 c.dffs
      (λ k less. ap (λ (n : ℕ). (get_or c.dffs n no_net).0) (let e : k ≡ 0 + k = omega arith in e))
      circuit.data_known
