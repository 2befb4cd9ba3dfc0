-- One machine more: nets that its fault doesn't touch keep their values.
use Rattle.std.specs.List.{slice_get}
use Rattle.std.proofs.Common.{◌≡◌, ◌≢◌, ◌+◌, ◌-◌, ◌∙◌, ℕ, List, [], ◌∷◌, ◌++◌, false, length, get_or, cond, ap, sym, refl, arith, Some, None, inl, inr}
use Rattle.std.proofs.lemmas.Bool.Decides.{eqb_tells}
use Rattle.std.proofs.lemmas.Option.{slice_get_past}
use Rattle.ht_tern.specs.declared.tern.Tern.{Tern}
use Rattle.ht_tern.specs.declared.tern.Tern.TheVariants.{Unk}
use Rattle.ht_tern.specs.Gate.{gate_value, tern_of}
use Rattle.ht_net.specs.declared.fault.Site.{Site}
use Rattle.ht_net.specs.declared.fault.Site.TheVariants.{Stem, DffPin, GatePin}
use Rattle.ht_net.specs.declared.fault.Fault.{Fault}
use Rattle.ht_net.specs.Circuit.Netlist.{Netlist, first_gate_net, gate_at}
use Rattle.ht_net.specs.Frames.Frame.{gate_output}
use Rattle.ht_net.specs.Frames.Faults.{forced, tern_rules, is_stem}
use Rattle.ht_net.proofs.FrameLaws.{le_or_lt}
use Rattle.ht_group.specs.LaneRules.{rules_at, drive_from, given_value, HasItsValue}
use Rattle.ht_frame.specs.StuckPins.{is_pin_of}
use Rattle.ht_group.specs.StuckTables.{forced_net_of}
use Rattle.ht_group.proofs.DriveLaws.{drive_low, drive_gate, source_same}
use Rattle.ht_frame.proofs.PinLaws.{plain_pins}
use Rattle.ht_group.proofs.StuckLaws.{slice_at_end, slice_other}

-- A fault that changes another net's driver or stem, if any's, is at no stem and no pin of this net.
not_stem : (c : Netlist) (site : Site) (y : ℕ) → forced_net_of c site ≢ Some y → is_stem site y ≡ false
not_stem c (Stem x) y ne = elim (eqb_tells y x.0) [
  | inl p ↦ absurd (ne (ap (λ (n : ℕ). Some n) (sym p.1)))
  | inr p ↦ p.0
]
not_stem c (DffPin j) y ne = refl
not_stem c (GatePin g i) y ne = refl

not_pin : (c : Netlist) (site : Site) (g : ℕ) → forced_net_of c site ≢ Some (first_gate_net c + g)
    → is_pin_of site g ≡ false
not_pin c (Stem x) g ne = refl
not_pin c (DffPin j) g ne = refl
not_pin c (GatePin h i) g ne = elim (eqb_tells g h) [
  | inl p ↦ absurd (ne (ap (λ (n : ℕ). Some (first_gate_net c + n)) (sym p.1)))
  | inr p ↦ p.0
]

plain_stem : (f : Fault) (y : ℕ) (v : Tern) → is_stem f.site y ≡ false → v ≡ (tern_rules (Some f)).stem y v
unfolding forced
plain_stem f y v h = ap (λ b. cond b (tern_of f.value) v) (sym h)

good_stem : (y : ℕ) (v : Tern) → (tern_rules None).stem y v ≡ v
unfolding forced
good_stem y v = refl

plain_gate : (c : Netlist) (f : Fault) (e : ℕ → Tern) (g : ℕ) → is_pin_of f.site g ≡ false
    → gate_output c (tern_rules None) e g ≡ gate_output c (tern_rules (Some f)) e g
unfolding gate_output
plain_gate c f e g h =
    ap (gate_value (gate_at c g).kind) (plain_pins Unk gate_value _ None g e 0 (gate_at c g).args refl
    ∙ sym (plain_pins Unk gate_value _ (Some f) g e 0 (gate_at c g).args h))

-- So the machine with the fault gives it what the good one does.
same_drive : (c : Netlist) (f : Fault) (s : List Tern) (e : ℕ → Tern) (y : ℕ) → forced_net_of c f.site ≢ Some y
    → drive_from c (tern_rules None) s e y ≡ drive_from c (tern_rules (Some f)) s e y
same_drive c f s e y ne = elim (le_or_lt (first_gate_net c) y) [
  | inl high ↦
      let g = y - first_gate_net c in
      let at : y ≡ first_gate_net c + (y - first_gate_net c) = omega (arith, high) in
      let apart : forced_net_of c f.site ≢ Some (first_gate_net c + (y - first_gate_net c)) =
      λ is. ne (is ∙ ap (λ (n : ℕ). Some n) (sym at)) in
      drive_gate c (tern_rules None) s e y high
      ∙ (plain_gate c f e (y - first_gate_net c) (not_pin c f.site (y - first_gate_net c) apart)
      ∙ sym (drive_gate c (tern_rules (Some f)) s e y high))
  | inr low ↦ drive_low c (tern_rules None) s e y low ∙ sym (drive_low c (tern_rules (Some f)) s e y low)
]

same_given : (c : Netlist) (f : Fault) (s : List Tern) (e : ℕ → Tern) (y : ℕ) → forced_net_of c f.site ≢ Some y
    → given_value c (tern_rules None) s e y ≡ given_value c (tern_rules (Some f)) s e y
same_given c f s e y ne =
    good_stem y (drive_from c (tern_rules None) s e y)
    ∙ (same_drive c f s e y ne
    ∙ plain_stem f y (drive_from c (tern_rules (Some f)) s e y) (not_stem c f.site y ne))

-- and so does the machine of each lane
lane_given : (c : Netlist) (faults : List Fault) (f : Fault) (s : List Tern) (e : ℕ → Tern) (y k : ℕ)
    → forced_net_of c f.site ≢ Some y
    → given_value c (rules_at faults k) s e y ≡ given_value c (rules_at (faults ++ f ∷ []) k) s e y
lane_given c faults f s e y k ne = elim (eqb_tells k (length faults)) [
  | inl p ↦
      ap (λ fault. given_value c (tern_rules fault) s e y)
      (ap (slice_get faults) p.1 ∙ slice_get_past faults (length faults) (omega arith))
      ∙ (same_given c f s e y ne
      ∙ ap (λ fault. given_value c (tern_rules fault) s e y)
      (sym (slice_at_end faults f) ∙ ap (slice_get (faults ++ f ∷ [])) (sym p.1)))
  | inr p ↦ ap (λ fault. given_value c (tern_rules fault) s e y) (sym (slice_other faults f k p.1))
]

-- A net that neither the new fault nor a new source touches keeps its value.
pub value_kept : (c : Netlist) (faults : List Fault) (f : Fault) (s t : List Tern) (e : ℕ → Tern) (y k : ℕ)
    → get_or s y Unk ≡ get_or t y Unk → forced_net_of c f.site ≢ Some y
    → HasItsValue c (rules_at faults k) s e y → HasItsValue c (rules_at (faults ++ f ∷ []) k) t e y
value_kept c faults f s t e y k same ne has =
    has ∙ (ap ((rules_at faults k).stem y) (source_same c (rules_at faults k) s t e y same)
    ∙ lane_given c faults f t e y k ne)
