-- The rules of machines, and those of the expanded machines that do the same.
use Rattle.std.proofs.Common.{◌≡◌, ◌≢◌, ◌<◌, ℕ, suc, List, [], ◌∷◌, Bool, true, false, cond, length, Some, None, refl, sym, ◌∙◌, ap, arith, inl, inr}
use Rattle.std.specs.Prelude.{eqb, ◌&&◌}
use Rattle.std.proofs.lemmas.Bool.{eq-eqb, ne_eqb, true≢false}
use Rattle.std.proofs.lemmas.Bool.Decides.{nat_tests, eqb_tells}
use Rattle.ht_tern.specs.declared.tern.Tern.{Tern}
use Rattle.ht_tern.specs.declared.tern.Tern.TheVariants.{Zero, One, Unk}
use Rattle.ht_tern.specs.declared.gate.Kind.{Kind}
use Rattle.ht_tern.specs.declared.gate.Kind.TheVariants.{And, Or}
use Rattle.ht_tern.specs.Gate.{gate_value, bool_gate_value}
use Rattle.ht_net.specs.declared.fault.Site.{Site}
use Rattle.ht_net.specs.declared.fault.Site.TheVariants.{Stem, DffPin, GatePin}
use Rattle.ht_net.specs.Circuit.Netlist.{Netlist, net_count, first_gate_net}
use Rattle.ht_net.specs.Frames.Faults.{forced, rules_of, tern_rules, bool_rules, is_stem, is_pin, is_data_pin}
use Rattle.ht_net.proofs.FrameLaws.{le_or_lt}
use Rattle.ht_slow.specs.Slow.{slow, slow_rules, slow_bit, slow_bit_rules, IsLine}
use Rattle.ht_slow.specs.ExpandedLine.{net, moved, moved_line, before_net, line_net, both_net, stuck_pin}
use Rattle.ht_slow.proofs.FrameLaws.{Expands}

-- ---- the line by itself

-- OR(v, AND(v, b)) is v, also where v is unknown
pub absorbed : (v b : Tern) → gate_value Or (v ∷ gate_value And (v ∷ b ∷ []) ∷ []) ≡ v
absorbed Zero Zero = refl
absorbed Zero One = refl
absorbed Zero Unk = refl
absorbed One b = refl
absorbed Unk Zero = refl
absorbed Unk One = refl
absorbed Unk Unk = refl

pub absorbed_bit : (v b : Bool) → bool_gate_value Or (v ∷ bool_gate_value And (v ∷ b ∷ []) ∷ []) ≡ v
absorbed_bit true b = refl
absorbed_bit false b = refl

pub rises : (v b : Tern) → gate_value Or (Zero ∷ gate_value And (v ∷ b ∷ []) ∷ []) ≡ slow false b v
rises v b = refl

pub falls : (v b : Tern) → gate_value Or (v ∷ gate_value And (One ∷ b ∷ []) ∷ []) ≡ slow true b v
falls v b = refl

same_either : {V : Type 0} → (t : Bool) (v : V) → v ≡ cond t v v
same_either true v = refl
same_either false v = refl

same_where : {V : Type 0} → (t : Bool) (v w : V) → (t ≡ true → w ≡ v) → w ≡ cond t v w
same_where true v w h = h refl
same_where false v w h = refl

-- ---- the line's own slow fault is a stuck pin

-- the two gates of a line whose first, or second, is stuck at its first pin
abbrev rising : (t f : Bool) (v b : Tern) → Tern
rising t f v b = gate_value Or (cond (t && true) Zero v
    ∷ cond (t && false) Zero (gate_value And (cond (f && true) Zero v ∷ cond (f && false) Zero b ∷ [])) ∷ [])

abbrev falling : (t f : Bool) (v b : Tern) → Tern
falling t f v b = gate_value Or (cond (t && true) One v
    ∷ cond (t && false) One (gate_value And (cond (f && true) One v ∷ cond (f && false) One b ∷ [])) ∷ [])

pub slow_expands : (c : Netlist) (site : Site) (value : Bool) (b : Tern)
    → Expands c site (slow_rules (Some (record { site = site; value = value })) b)
    (tern_rules (Some (stuck_pin c value))) b (slow value b)
unfolding forced
slow_expands c site false b =
    let g : ℕ = length c.gates in
    let same : eqb g g ≡ true = eq-eqb g g refl in
    let other : eqb (suc g) g ≡ false = ne_eqb (suc g) g (omega arith) in
    record {
      stem = λ x v h. refl;
      pin = λ h i v less. let ne : eqb h g ≡ false = ne_eqb h g (omega arith) in
          ap (λ (t : Bool). cond (is_pin site h i) (slow false b v) (cond (t && eqb i 0) Zero v)) (sym ne);
      pin_free = λ h i v less is. let ne : eqb h g ≡ false = ne_eqb h g (omega arith) in
          ap (λ (t : Bool). cond (t && eqb i 0) Zero v) ne;
      data_on = λ j v h. refl;
      same_gate = λ kind vs. refl;
      same_blank = refl;
      stem_free = λ x v h is. refl;
      data_free = λ j v h is. refl;
      before_free = λ v. refl;
      line_free = λ v. refl;
      both_free = λ v. refl;
      data_off = λ v. refl;
      line = λ v. ap (λ (t : Bool). rising t (eqb (suc g) g) v b) same
          ∙ (ap (λ (f : Bool). rising true f v b) other ∙ rises v b);
    }
slow_expands c site true b =
    let g : ℕ = length c.gates in
    let same : eqb (suc g) (suc g) ≡ true = eq-eqb (suc g) (suc g) refl in
    let other : eqb g (suc g) ≡ false = ne_eqb g (suc g) (omega arith) in
    record {
      stem = λ x v h. refl;
      pin = λ h i v less. let ne : eqb h (suc g) ≡ false = ne_eqb h (suc g) (omega arith) in
          ap (λ (t : Bool). cond (is_pin site h i) (slow true b v) (cond (t && eqb i 0) One v)) (sym ne);
      pin_free = λ h i v less is. let ne : eqb h (suc g) ≡ false = ne_eqb h (suc g) (omega arith) in
          ap (λ (t : Bool). cond (t && eqb i 0) One v) ne;
      data_on = λ j v h. refl;
      same_gate = λ kind vs. refl;
      same_blank = refl;
      stem_free = λ x v h is. refl;
      data_free = λ j v h is. refl;
      before_free = λ v. refl;
      line_free = λ v. refl;
      both_free = λ v. refl;
      data_off = λ v. refl;
      line = λ v. ap (λ (t : Bool). falling t (eqb (suc g) (suc g)) v b) other
          ∙ (ap (λ (f : Bool). falling false f v b) same ∙ falls v b);
    }

abbrev rising_bit : (t f : Bool) (v b : Bool) → Bool
rising_bit t f v b = bool_gate_value Or (cond (t && true) false v
    ∷ cond (t && false) false (bool_gate_value And (cond (f && true) false v ∷ cond (f && false) false b ∷ [])) ∷ [])

abbrev falling_bit : (t f : Bool) (v b : Bool) → Bool
falling_bit t f v b = bool_gate_value Or (cond (t && true) true v
    ∷ cond (t && false) true (bool_gate_value And (cond (f && true) true v ∷ cond (f && false) true b ∷ [])) ∷ [])

pub slow_bit_expands : (c : Netlist) (site : Site) (value : Bool) (b : Bool)
    → Expands c site (slow_bit_rules (Some (record { site = site; value = value })) b)
    (bool_rules (Some (stuck_pin c value))) b (slow_bit value b)
unfolding forced
slow_bit_expands c site false b =
    let g : ℕ = length c.gates in
    let same : eqb g g ≡ true = eq-eqb g g refl in
    let other : eqb (suc g) g ≡ false = ne_eqb (suc g) g (omega arith) in
    record {
      stem = λ x v h. refl;
      pin = λ h i v less. let ne : eqb h g ≡ false = ne_eqb h g (omega arith) in
          ap (λ (t : Bool). cond (is_pin site h i) (slow_bit false b v) (cond (t && eqb i 0) false v)) (sym ne);
      pin_free = λ h i v less is. let ne : eqb h g ≡ false = ne_eqb h g (omega arith) in
          ap (λ (t : Bool). cond (t && eqb i 0) false v) ne;
      data_on = λ j v h. refl;
      same_gate = λ kind vs. refl;
      same_blank = refl;
      stem_free = λ x v h is. refl;
      data_free = λ j v h is. refl;
      before_free = λ v. refl;
      line_free = λ v. refl;
      both_free = λ v. refl;
      data_off = λ v. refl;
      line = λ v. ap (λ (t : Bool). rising_bit t (eqb (suc g) g) v b) same
          ∙ ap (λ (f : Bool). rising_bit true f v b) other;
    }
slow_bit_expands c site true b =
    let g : ℕ = length c.gates in
    let same : eqb (suc g) (suc g) ≡ true = eq-eqb (suc g) (suc g) refl in
    let other : eqb g (suc g) ≡ false = ne_eqb g (suc g) (omega arith) in
    record {
      stem = λ x v h. refl;
      pin = λ h i v less. let ne : eqb h (suc g) ≡ false = ne_eqb h (suc g) (omega arith) in
          ap (λ (t : Bool). cond (is_pin site h i) (slow_bit true b v) (cond (t && eqb i 0) true v)) (sym ne);
      pin_free = λ h i v less is. let ne : eqb h (suc g) ≡ false = ne_eqb h (suc g) (omega arith) in
          ap (λ (t : Bool). cond (t && eqb i 0) true v) ne;
      data_on = λ j v h. refl;
      same_gate = λ kind vs. refl;
      same_blank = refl;
      stem_free = λ x v h is. refl;
      data_free = λ j v h is. refl;
      before_free = λ v. refl;
      line_free = λ v. refl;
      both_free = λ v. refl;
      data_off = λ v. refl;
      line = λ v. ap (λ (t : Bool). falling_bit t (eqb (suc g) (suc g)) v b) other
          ∙ ap (λ (f : Bool). falling_bit false f v b) same;
    }

-- ---- a fault of another line stays

-- different lines have no stem and no pin in common
stems_apart : (site line : Site) → site ≢ line → (x : ℕ) → is_stem site x ≡ true → is_stem line x ≡ false
stems_apart (Stem a) (Stem b) ne x is = elim (eqb_tells x a.0) [
  | inl p ↦ elim (eqb_tells x b.0) [
    | inl q ↦ absurd (ne (ap (λ (n : ℕ). Stem (net n)) (sym p.1 ∙ q.1)))
    | inr q ↦ q.0
  ]
  | inr p ↦ absurd (true≢false (sym is ∙ p.0))
]
stems_apart (Stem a) (DffPin k) ne x is = refl
stems_apart (Stem a) (GatePin h k) ne x is = refl
stems_apart (DffPin j) line ne x is = absurd (true≢false (sym is))
stems_apart (GatePin g i) line ne x is = absurd (true≢false (sym is))

datas_apart : (site line : Site) → site ≢ line → (x : ℕ) → is_data_pin site x ≡ true → is_data_pin line x ≡ false
datas_apart (DffPin a) (DffPin b) ne x is = elim (eqb_tells x a) [
  | inl p ↦ elim (eqb_tells x b) [
    | inl q ↦ absurd (ne (ap (λ (n : ℕ). DffPin n) (sym p.1 ∙ q.1)))
    | inr q ↦ q.0
  ]
  | inr p ↦ absurd (true≢false (sym is ∙ p.0))
]
datas_apart (DffPin a) (Stem k) ne x is = refl
datas_apart (DffPin a) (GatePin h k) ne x is = refl
datas_apart (Stem j) line ne x is = absurd (true≢false (sym is))
datas_apart (GatePin g i) line ne x is = absurd (true≢false (sym is))

-- a pin is that of its gate and its number
pin_is : (g i h k : ℕ) → (eqb g h && eqb i k) ≡ true → (g ≡ h) × (i ≡ k)
pin_is g i h k is = elim (eqb_tells g h) [
  | inl a ↦ elim (eqb_tells i k) [
    | inl b ↦ (a.1, b.1)
    | inr b ↦ absurd (true≢false (sym is ∙ (ap (λ (t : Bool). t && eqb i k) a.0 ∙ b.0)))
  ]
  | inr a ↦ absurd (true≢false (sym is ∙ ap (λ (t : Bool). t && eqb i k) a.0))
]

true_or_false : (b : Bool) → (b ≡ true → ⊥) → b ≡ false
true_or_false true h = absurd (h refl)
true_or_false false h = refl

pins_apart : (site line : Site) → site ≢ line → (g i : ℕ) → is_pin site g i ≡ true → is_pin line g i ≡ false
pins_apart (GatePin a b) (GatePin h k) ne g i is = true_or_false (eqb g h && eqb i k)
    (λ at. let p = pin_is g i a b is in let q = pin_is g i h k at in
    ne (ap (λ (n : ℕ). GatePin n b) (sym p.0 ∙ q.0) ∙ ap (λ (n : ℕ). GatePin h n) (sym p.1 ∙ q.1)))
pins_apart (GatePin a b) (Stem y) ne g i is = refl
pins_apart (GatePin a b) (DffPin j) ne g i is = refl
pins_apart (Stem y) line ne g i is = absurd (true≢false (sym is))
pins_apart (DffPin j) line ne g i is = absurd (true≢false (sym is))

-- nets that move stay apart from each other and from those of the line
pub moved_once : (c : Netlist) (x y : ℕ) → moved c x ≡ moved c y → x ≡ y
moved_once c x y h = elim (le_or_lt (first_gate_net c) x) [
  | inl a ↦ elim (le_or_lt (first_gate_net c) y) [
    | inl b ↦ grind (arith, nat_tests)
    | inr b ↦ grind (arith, nat_tests)
  ]
  | inr a ↦ elim (le_or_lt (first_gate_net c) y) [
    | inl b ↦ grind (arith, nat_tests)
    | inr b ↦ grind (arith, nat_tests)
  ]
]

moved_tells : (c : Netlist) (x y : ℕ) → eqb (moved c x) (moved c y) ≡ eqb x y
moved_tells c x y = elim (eqb_tells x y) [
  | inl p ↦ eq-eqb (moved c x) (moved c y) (ap (moved c) p.1) ∙ sym p.0
  | inr p ↦ ne_eqb (moved c x) (moved c y) (λ e. p.1 (moved_once c x y e)) ∙ sym p.0
]

not_before : (c : Netlist) (y : ℕ) → eqb (before_net c) (moved c y) ≡ false
not_before c y = ne_eqb (before_net c) (moved c y) (grind (arith, nat_tests))

not_line : (c : Netlist) (y : ℕ) → y < net_count c → eqb (line_net c) (moved c y) ≡ false
not_line c y h = ne_eqb (line_net c) (moved c y) (grind (arith, nat_tests))

not_both : (c : Netlist) (y : ℕ) → y < net_count c → eqb (both_net c) (moved c y) ≡ false
not_both c y h = ne_eqb (both_net c) (moved c y) (grind (arith, nat_tests))

module _ {V : Type 0} (c : Netlist) (site : Site) (blank : V) (gate : Kind → List V → V) (stick : Bool → V → V) (b : V)
    (absorbs : (v : V) → gate Or (v ∷ gate And (v ∷ b ∷ []) ∷ []) ≡ v) where
  -- the two gates of the line where each of four pins may be stuck
  abbrev two_gates : Bool → (m n o p : Bool) → V → V
  two_gates value m n o p v = gate Or (cond m (stick value v) v ∷ cond n
      (stick value (gate And (cond o (stick value v) v ∷ cond p (stick value b) b ∷ [])))
      (gate And (cond o (stick value v) v ∷ cond p (stick value b) b ∷ [])) ∷ [])

  pub other_expands : (line : Site) (value : Bool) → IsLine c line → site ≢ line
      → Expands c site (rules_of blank gate stick (Some (record { site = line; value = value })))
      (rules_of blank gate stick (Some (record { site = moved_line c line; value = value }))) b (λ v. v)
  unfolding forced
  other_expands (Stem y) value inside ne =
      let stuck : Bool → V → V = λ t v. cond t (stick value v) v in
      let free : (x : ℕ) (v : V) → is_stem site x ≡ true → stuck (eqb (moved c x) (moved c y.0)) v ≡ v =
      λ x v is. ap (λ (t : Bool). stuck t v) (moved_tells c x y.0 ∙ stems_apart site (Stem y) ne x is) in
      record {
        stem = λ x v h. ap (λ (t : Bool). stuck t v) (sym (moved_tells c x y.0))
            ∙ same_where (is_stem site x) v (stuck (eqb (moved c x) (moved c y.0)) v) (free x v);
        pin = λ h i v less. same_either (is_pin site h i) v;
        pin_free = λ h i v less is. refl;
        data_on = λ j v h. same_either (is_data_pin site j) v;
        same_gate = λ kind vs. refl;
        same_blank = refl;
        stem_free = λ x v h is. free x v is;
        data_free = λ j v h is. refl;
        before_free = λ v. ap (λ (t : Bool). stuck t v) (not_before c y.0);
        line_free = λ v. ap (λ (t : Bool). stuck t v) (not_line c y.0 inside);
        both_free = λ v. ap (λ (t : Bool). stuck t v) (not_both c y.0 inside);
        data_off = λ v. refl;
        line = absorbs;
      }
  other_expands (DffPin k) value inside ne =
      let stuck : Bool → V → V = λ t v. cond t (stick value v) v in
      let free : (j : ℕ) (v : V) → is_data_pin site j ≡ true → stuck (eqb j k) v ≡ v =
      λ j v is. ap (λ (t : Bool). stuck t v) (datas_apart site (DffPin k) ne j is) in
      record {
        stem = λ x v h. same_either (is_stem site x) v;
        pin = λ h i v less. same_either (is_pin site h i) v;
        pin_free = λ h i v less is. refl;
        data_on = λ j v h. same_where (is_data_pin site j) v (stuck (eqb j k) v) (free j v);
        same_gate = λ kind vs. refl;
        same_blank = refl;
        stem_free = λ x v h is. refl;
        data_free = λ j v h is. free j v is;
        before_free = λ v. refl;
        line_free = λ v. refl;
        both_free = λ v. refl;
        data_off = λ v. ap (λ (t : Bool). stuck t v) (ne_eqb (length c.dffs) k (omega arith));
        line = absorbs;
      }
  other_expands (GatePin h k) value inside ne =
      let stuck : Bool → V → V = λ t v. cond t (stick value v) v in
      let free : (g i : ℕ) (v : V) → is_pin site g i ≡ true → stuck (eqb g h && eqb i k) v ≡ v =
      λ g i v is. ap (λ (t : Bool). stuck t v) (pins_apart site (GatePin h k) ne g i is) in
      let n : ℕ = length c.gates in
      let below = inside.0 in
      let one : eqb n h ≡ false = ne_eqb n h (omega (arith, below)) in
      let two : eqb (suc n) h ≡ false = ne_eqb (suc n) h (omega (arith, below)) in
      record {
        stem = λ x v h. same_either (is_stem site x) v;
        pin = λ g i v less. same_where (is_pin site g i) v (stuck (eqb g h && eqb i k) v) (free g i v);
        pin_free = λ g i v less is. free g i v is;
        data_on = λ j v h. same_either (is_data_pin site j) v;
        same_gate = λ kind vs. refl;
        same_blank = refl;
        stem_free = λ x v h is. refl;
        data_free = λ j v h is. refl;
        before_free = λ v. refl;
        line_free = λ v. refl;
        both_free = λ v. refl;
        data_off = λ v. refl;
        line = λ v. ap (λ (t : Bool). two_gates value (t && eqb 0 k) (t && eqb 1 k) (eqb (suc n) h && eqb 0 k)
            (eqb (suc n) h && eqb 1 k) v) one
            ∙ (ap (λ (t : Bool). two_gates value false false (t && eqb 0 k) (t && eqb 1 k) v) two ∙ absorbs v);
      }

  -- the good machine
  pub good_expands : Expands c site (rules_of blank gate stick None) (rules_of blank gate stick None) b (λ v. v)
  unfolding forced
  good_expands = record {
    stem = λ x v h. same_either (is_stem site x) v;
    pin = λ g i v h. same_either (is_pin site g i) v;
    pin_free = λ g i v h is. refl;
    data_on = λ j v h. same_either (is_data_pin site j) v;
    same_gate = λ kind vs. refl;
    same_blank = refl;
    stem_free = λ x v h is. refl;
    data_free = λ j v h is. refl;
    before_free = λ v. refl;
    line_free = λ v. refl;
    both_free = λ v. refl;
    data_off = λ v. refl;
    line = absorbs;
  }
