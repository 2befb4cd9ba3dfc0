-- An effect ends in one way.
use Rattle.std.proofs.Common.{◌≡◌, ◌≢◌, ◌+◌, ◌⊎◌, ℕ, None, refl, sym, ap, subst, arith, inl, inr}
use Rattle.std.proofs.lemmas.Bool.Decides.{eqb_tells}
use Rattle.ht_tern.specs.declared.tern.Tern.{Tern}
use Rattle.ht_net.specs.Circuit.Netlist.{Netlist, first_gate_net, gate_at}
use Rattle.ht_net.specs.Frames.Frame.{gate_output}
use Rattle.ht_net.specs.Frames.Faults.{tern_rules}
use Rattle.ht_stems.specs.declared.arrival.Arrival.{Arrival}
use Rattle.ht_stems.specs.declared.arrival.Arrival.TheVariants.{Dies, AtLatch, AtOutput, AtStem}
use Rattle.ht_stems.specs.declared.net_loads.NetLoads.{NetLoads}
use Rattle.ht_stems.specs.declared.net_loads.NetLoads.TheVariants.{NoLoad, OneGate, OneDataPin, OneOutput, Several}
use Rattle.ht_stems.specs.ForcedNets.{with_net_value}
use Rattle.ht_stems.specs.LoadsOfNets.{HasLoads}
use Rattle.ht_stems.specs.Arrivals.{Arrives, unchanged, unread, at_latch, at_output, at_stem, through_gate}
use Rattle.ht_stems.proofs.ReadLaws.{read_at, only_gate, gate_not_data, gate_not_output, data_pin_alone, output_alone}

-- A net has its loads in one way.
one_gate : (c : Netlist) (x g h : ℕ) → HasLoads c x (OneGate g) → HasLoads c x (OneGate h) → g ≡ h
one_gate c x g h loads (one, known, reads) =
    let pin = read_at x (gate_at c h).args reads in
    sym (only_gate c x g loads h pin.0 known pin.1 pin.2)

one_data_pin : (c : Netlist) (x j k : ℕ) → HasLoads c x (OneDataPin j) → HasLoads c x (OneDataPin k) → j ≡ k
one_data_pin c x j k loads (one, known, is) = elim (eqb_tells k j) [
  | inl p ↦ sym p.1
  | inr p ↦ absurd ((data_pin_alone c x j loads).only k known p.1 is)
]

one_output : (c : Netlist) (x o k : ℕ) → HasLoads c x (OneOutput o) → HasLoads c x (OneOutput k) → o ≡ k
one_output c x o k loads (one, known, is) = elim (eqb_tells k o) [
  | inl p ↦ sym p.1
  | inr p ↦ absurd ((output_alone c x o loads).only k known p.1 is)
]

loads_determined : (c : Netlist) (x : ℕ) (l m : NetLoads) → HasLoads c x l → HasLoads c x m → l ≡ m
loads_determined c x NoLoad NoLoad h k = refl
loads_determined c x NoLoad (OneGate g) h k = absurd (omega (arith, h, k.0))
loads_determined c x NoLoad (OneDataPin j) h k = absurd (omega (arith, h, k.0))
loads_determined c x NoLoad (OneOutput o) h k = absurd (omega (arith, h, k.0))
loads_determined c x NoLoad Several h k = absurd (omega (arith, h, k))
loads_determined c x (OneGate g) NoLoad h k = absurd (omega (arith, h.0, k))
loads_determined c x (OneGate g) (OneGate i) h k = ap (λ (n : ℕ). OneGate n) (one_gate c x g i h k)
loads_determined c x (OneGate g) (OneDataPin j) h k = absurd (gate_not_data c x g h j k.1 k.2)
loads_determined c x (OneGate g) (OneOutput o) h k = absurd (gate_not_output c x g h o k.1 k.2)
loads_determined c x (OneGate g) Several h k = absurd (omega (arith, h.0, k))
loads_determined c x (OneDataPin j) NoLoad h k = absurd (omega (arith, h.0, k))
loads_determined c x (OneDataPin j) (OneGate g) h k = absurd (gate_not_data c x g k j h.1 h.2)
loads_determined c x (OneDataPin j) (OneDataPin i) h k = ap (λ (n : ℕ). OneDataPin n) (one_data_pin c x j i h k)
loads_determined c x (OneDataPin j) (OneOutput o) h k = absurd ((data_pin_alone c x j h).elsewhere o k.1 k.2)
loads_determined c x (OneDataPin j) Several h k = absurd (omega (arith, h.0, k))
loads_determined c x (OneOutput o) NoLoad h k = absurd (omega (arith, h.0, k))
loads_determined c x (OneOutput o) (OneGate g) h k = absurd (gate_not_output c x g k o h.1 h.2)
loads_determined c x (OneOutput o) (OneDataPin j) h k = absurd ((data_pin_alone c x j k).elsewhere o h.1 h.2)
loads_determined c x (OneOutput o) (OneOutput i) h k = ap (λ (n : ℕ). OneOutput n) (one_output c x o i h k)
loads_determined c x (OneOutput o) Several h k = absurd (omega (arith, h.0, k))
loads_determined c x Several NoLoad h k = absurd (omega (arith, h, k))
loads_determined c x Several (OneGate g) h k = absurd (omega (arith, h, k.0))
loads_determined c x Several (OneDataPin j) h k = absurd (omega (arith, h, k.0))
loads_determined c x Several (OneOutput o) h k = absurd (omega (arith, h, k.0))
loads_determined c x Several Several h k = refl

module _ (c : Netlist) (good : ℕ → Tern) where
  -- what is left of an effect after a net that has these loads
  abbrev LeftAfter : ℕ → Tern → NetLoads → Arrival → Type 0
  LeftAfter x v NoLoad a = a ≡ Dies
  LeftAfter x v (OneGate g) a =
      Arrives c good (first_gate_net c + g) (gate_output c (tern_rules None) (with_net_value good x v) g) a
  LeftAfter x v (OneDataPin j) a = a ≡ AtLatch j v
  LeftAfter x v (OneOutput o) a = a ≡ AtOutput o v
  LeftAfter x v Several a = a ≡ AtStem (record { 0 = x }) v

  -- how an effect ends, by the loads of its net
  record EndsBy (x : ℕ) (v : Tern) (a : Arrival) : Type 0 where
    loads : NetLoads
    are : HasLoads c x loads
    left : LeftAfter x v loads a

  ways : (x : ℕ) (v : Tern) (a : Arrival) → Arrives c good x v a
      → ((v ≡ good x) × (a ≡ Dies)) ⊎ ((v ≢ good x) × EndsBy x v a)
  ways _ _ _ (unchanged x v own) = inl (own, refl)
  ways _ _ _ (unread x v other loads) = inr (other, record { loads = NoLoad; are = loads; left = refl })
  ways _ _ _ (at_latch x v j other loads) = inr (other, record { loads = OneDataPin j; are = loads; left = refl })
  ways _ _ _ (at_output x v o other loads) = inr (other, record { loads = OneOutput o; are = loads; left = refl })
  ways _ _ _ (at_stem x v other loads) = inr (other, record { loads = Several; are = loads; left = refl })
  ways _ _ _ (through_gate x v g a other loads rest) =
      inr (other, record { loads = OneGate g; are = loads; left = rest })

  -- an effect that doesn't die at its net goes the way that the net's loads say
  left_after : (x : ℕ) (v : Tern) (a : Arrival) (loads : NetLoads) → v ≢ good x → HasLoads c x loads
      → Arrives c good x v a → LeftAfter x v loads a
  left_after x v a loads other are arrives = elim (ways x v a arrives) [
    | inl p ↦ absurd (other p.0)
    | inr p ↦
        let P : NetLoads → Type 0 = λ l. LeftAfter x v l a in
        subst P (loads_determined c x p.1.loads loads p.1.are are) p.1.left
  ]

  -- the effect of a forced net ends in only one way
  pub arrival_determined : (x : ℕ) (v : Tern) (a b : Arrival) → Arrives c good x v a → Arrives c good x v b → a ≡ b
  arrival_determined _ _ _ b (unchanged x v own) arrives = elim (ways x v b arrives) [
    | inl p ↦ sym p.1
    | inr p ↦ absurd (p.0 own)
  ]
  arrival_determined _ _ _ b (unread x v other loads) arrives = sym (left_after x v b NoLoad other loads arrives)
  arrival_determined _ _ _ b (at_latch x v j other loads) arrives =
      sym (left_after x v b (OneDataPin j) other loads arrives)
  arrival_determined _ _ _ b (at_output x v o other loads) arrives =
      sym (left_after x v b (OneOutput o) other loads arrives)
  arrival_determined _ _ _ b (at_stem x v other loads) arrives = sym (left_after x v b Several other loads arrives)
  arrival_determined _ _ _ b (through_gate x v g a other loads rest) arrives =
      arrival_determined (first_gate_net c + g) (gate_output c (tern_rules None) (with_net_value good x v) g) a b rest
      (left_after x v b (OneGate g) other loads arrives)
