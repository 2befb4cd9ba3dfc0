-- Pins of a gate, lane by lane.
use Rattle.std.specs.Int.{bit_at, bit_not, w64, trailing_zeros}
use Rattle.std.specs.List.{slice_get}
use Rattle.std.proofs.Common.{◌≡◌, ◌≢◌, ◌<◌, ◌≤◌, ◌^◌, ◌*◌, ◌%◌, ◌+◌, ◌∙◌, ◌&&◌, ℕ, List, [], ◌∷◌, Bool, true, false, length, get_or, map, take, cond, eqb, ap, sym, refl, arith, Option, Some, None, inl, inr}
use Rattle.std.proofs.lemmas.Bool.Decides.{eqb_tells}
use Rattle.std.proofs.lemmas.Bool.{eqb-true}
use Rattle.std.proofs.lemmas.Nat.{and_le_l}
use Rattle.std.proofs.lemmas.Nat.Bits.{bit_at_clear_same, bit_at_clear_other, bit_at-zero, bit_at-trailing_zeros}
use Rattle.std.proofs.lemmas.Option.{slice_get_within, get_or_from_slice_get}
use Rattle.std.proofs.lemmas.List.{ext_get_or, get_or-map, get_or-take, length-take-le, length-map}
use Rattle.ht_tern.specs.declared.tern.Tern.{Tern}
use Rattle.ht_tern.specs.declared.tern.Tern.TheVariants.{Unk}
use Rattle.ht_tern.specs.Gate.{tern_of}
use Rattle.ht_items.specs.Bits.{is_set}
use Rattle.ht_lanes.specs.Lanes.{Lanes, lane, every_lane, word_at}
use Rattle.ht_net.specs.declared.net.NetId.{NetId}
use Rattle.ht_net.specs.declared.fault.Site.{Site}
use Rattle.ht_net.specs.declared.fault.Site.TheVariants.{Stem, DffPin, GatePin}
use Rattle.ht_net.specs.declared.fault.Fault.{Fault}
use Rattle.ht_net.specs.Circuit.Netlist.{no_net}
use Rattle.ht_net.specs.Frames.Frame.{pin_values, values_at}
use Rattle.ht_net.specs.Frames.Faults.{forced, tern_rules, is_pin}
use Rattle.ht_net.proofs.FrameLaws.{pins_length, pins_get}
use Rattle.ht_frame.specs.StuckPins.{is_at_gate, is_pin_of}
use Rattle.ht_frame.proofs.PinLaws.{plain_pin}
use Rattle.ht_items.specs.Bits.{with_bit}
use Rattle.ht_group.specs.StuckTables.{is_pin_number, AreGateLanes}
use Rattle.ht_group.specs.LaneRules.{rules_at, lane_env}
use Rattle.ht_group.proofs.InLaneLaws.{lane_get}

-- the values of nets in one lane
pub values_in_lane : (k : ℕ) → k < 64 → (words : List Lanes) (args : List NetId)
    → map (λ (w : Lanes). lane w k) (values_at (word_at words) args) ≡ values_at (lane_env k words) args
values_in_lane k below words [] = refl
values_in_lane k below words (a ∷ args) =
    λ i. sym (lane_get k below words a.0) i ∷ values_in_lane k below words args i

-- where its fault is at some pin of the gate
stuck_number : (site : Site) (g i : ℕ) → is_pin_of site g ≡ true → is_pin site g i ≡ is_pin_number site i
stuck_number (Stem x) g i h = cc
stuck_number (DffPin j) g i h = cc
stuck_number (GatePin h k) g i e = ap (λ b. b && eqb i k) e

stuck_pin : (f : Fault) (g i : ℕ) (v : Tern) → is_pin_of f.site g ≡ true
    → (tern_rules (Some f)).pin g i v ≡ cond (is_pin_number f.site i) (tern_of f.value) v
unfolding forced
stuck_pin f g i v here = ap (λ b. cond b (tern_of f.value) v) (stuck_number f.site g i here)

-- The pins with the lanes of `rest` still to be stuck.
abbrev pub ArePinsBut : List Fault → ℕ → ℕ → List Lanes → List Lanes → Type 0
ArePinsBut faults g rest old pins = (i k : ℕ) → i < 256 → k < 64 → lane_env k pins i
    ≡ cond (is_set rest k) (lane_env k old i) ((rules_at faults k).pin g i (lane_env k old i))

by_pin : (b : Bool) (v u : Tern) → cond (b && true) v u ≡ cond b v u
by_pin true v u = refl
by_pin false v u = refl

-- a choice by a condition that is false is the second value
pub by_none : (b : Bool) (v u : Tern) → cond (b && false) v u ≡ u
by_none true v u = refl
by_none false v u = refl

left_to_stick : (b : Bool) (v u : Tern) → (b ≡ false → u ≡ v) → v ≡ cond b v u
left_to_stick true v u h = refl
left_to_stick false v u h = sym (h refl)

-- before the first lane is stuck, and after the last
pub all_left : (faults : List Fault) (g lanes : ℕ) (old : List Lanes) → AreGateLanes faults g lanes
    → ArePinsBut faults g lanes old old
all_left faults g lanes old are i k within below =
    left_to_stick (is_set lanes k) (lane_env k old i) ((rules_at faults k).pin g i (lane_env k old i))
    (λ h. plain_pin _ (slice_get faults k) g i (lane_env k old i) (sym (are k below) ∙ h))

-- after no lane is left to be stuck, each pin has in each lane what the lane's machine has there
pub none_left : (faults : List Fault) (g rest : ℕ) (old pins : List Lanes) → rest ≡ 0
    → ArePinsBut faults g rest old pins
    → (i k : ℕ) → i < 256 → k < 64 → lane_env k pins i ≡ (rules_at faults k).pin g i (lane_env k old i)
none_left faults g rest old pins none but i k within below =
    but i k within below
    ∙ ap (λ b. cond (eqb b 1) (lane_env k old i) ((rules_at faults k).pin g i (lane_env k old i)))
    (ap (λ n. bit_at n k) none ∙ bit_at-zero k)

-- one more lane is stuck
one_stuck : (faults : List Fault) (g rest k : ℕ) (old pins next : List Lanes) (f : Fault)
    → k < 64 → slice_get faults k ≡ Some f → is_pin_of f.site g ≡ true → is_set rest k ≡ true
    → ((i n : ℕ) → n < 64 → lane_env n next i
    ≡ cond (is_pin_number f.site i && eqb n k) (tern_of f.value) (lane_env n pins i))
    → ArePinsBut faults g rest old pins → ArePinsBut faults g (with_bit rest k false) old next
one_stuck faults g rest k old pins next f small has here set_k written before i n within below =
    written i n below ∙ elim (eqb_tells n k) [
      | inl p ↦
          let cleared : is_set (with_bit rest k false) n ≡ false =
          ap (λ m. is_set (with_bit rest k false) m) p.1 ∙ ap (λ b. eqb b 1) (bit_at_clear_same w64 rest k small) in
          let had : is_set rest n ≡ true = ap (is_set rest) p.1 ∙ set_k in
          let at : lane_env n pins i ≡ lane_env n old i = before i n within below
          ∙ ap (λ b. cond b (lane_env n old i) ((rules_at faults n).pin g i (lane_env n old i))) had in
          let fault : slice_get faults n ≡ Some f = ap (slice_get faults) p.1 ∙ has in
          rw (p.0, cleared, at, fault) (by_pin (is_pin_number f.site i) (tern_of f.value) (lane_env n old i)
          ∙ sym (stuck_pin f g i (lane_env n old i) here))
      | inr p ↦
          let kept : is_set (with_bit rest k false) n ≡ is_set rest n =
          ap (λ b. eqb b 1) (bit_at_clear_other w64 rest k small n below p.1) in
          rw (p.0, kept) (by_none (is_pin_number f.site i) (tern_of f.value) (lane_env n pins i)
          ∙ before i n within below)
    ]

-- The lanes that are left all have their fault at the gate.
abbrev pub AreLeft : List Fault → ℕ → ℕ → Type 0
AreLeft faults g rest = (k : ℕ) → k < 64 → is_set rest k ≡ true → is_at_gate (slice_get faults k) g ≡ true

at_gate_some : (fault : Option Fault) (g : ℕ) → is_at_gate fault g ≡ true
    → (f : Fault) × (fault ≡ Some f) × (is_pin_of f.site g ≡ true)
at_gate_some None g h = cc
at_gate_some (Some f) g h = (f, refl, h)

-- the first of them
pub record IsFirstLane (faults : List Fault) (g rest k : ℕ) : Type 0 where
  pub small : k < 64
  pub bit : bit_at rest k ≡ 1
  pub fault : Fault
  pub has : slice_get faults k ≡ Some fault
  pub here : is_pin_of fault.site g ≡ true
  pub within : k < length faults

-- the lowest lane that is left has its fault at a pin of the gate
pub first_lane : (faults : List Fault) (g rest : ℕ) → 0 < rest → rest < 2 ^ 64 → AreLeft faults g rest
    → IsFirstLane faults g rest (trailing_zeros w64 rest)
first_lane faults g rest some fits left =
    let k = trailing_zeros w64 rest in
    let low = bit_at-trailing_zeros w64 rest some fits in
    let f = at_gate_some (slice_get faults (trailing_zeros w64 rest)) g
    (left (trailing_zeros w64 rest) low.0 (ap (λ b. eqb b 1) low.1)) in
    record {
      small = low.0;
      bit = low.1;
      fault = f.0;
      has = f.1;
      here = f.2;
      within = slice_get_within faults (trailing_zeros w64 rest) f.0 f.1;
    }

-- the first lane of the rest is stuck
pub first_stuck : (faults : List Fault) (g rest k : ℕ) (old pins next : List Lanes) (d : Fault)
    → IsFirstLane faults g rest k
    → ((i n : ℕ) → n < 64 → lane_env n next i
    ≡ cond (is_pin_number (get_or faults k d).site i && eqb n k) (tern_of (get_or faults k d).value)
    (lane_env n pins i))
    → ArePinsBut faults g rest old pins → ArePinsBut faults g (with_bit rest k false) old next
first_stuck faults g rest k old pins next d first written before =
    let same : first.fault ≡ get_or faults k d = sym (get_or_from_slice_get faults k first.fault d first.has) in
    one_stuck faults g rest k old pins next (get_or faults k d) first.small
    (first.has ∙ ap (λ (f : Fault). Some f) same) (sym (ap (λ (f : Fault). is_pin_of f.site g) same) ∙ first.here)
    (ap (λ b. eqb b 1) first.bit) written before

zero_one : (x : ℕ) → x ≡ 0 → x ≡ 1 → ⊥
zero_one x a b = omega arith

-- and the rest without it
pub rest_smaller : (rest k : ℕ) → k < 64 → bit_at rest k ≡ 1 → with_bit rest k false < rest
rest_smaller rest k small bit =
    let le : with_bit rest k false ≤ rest = and_le_l rest (bit_not w64 (1 * 2 ^ k % 2 ^ 64)) in
    elim (eqb_tells (with_bit rest k false) rest) [
      | inl p ↦ absurd (zero_one (bit_at rest k)
          (ap (λ n. bit_at n k) (sym p.1) ∙ bit_at_clear_same w64 rest k small) bit)
      | inr p ↦ let ne : with_bit rest k false ≢ rest = p.1 in omega arith
    ]

-- the lanes that are left after one more is stuck all have their fault at the gate
pub rest_left : (faults : List Fault) (g rest k : ℕ) → k < 64 → AreLeft faults g rest
    → AreLeft faults g (with_bit rest k false)
rest_left faults g rest k small left n below is = elim (eqb_tells n k) [
  | inl p ↦ absurd (zero_one (bit_at (with_bit rest k false) n)
      (ap (bit_at (with_bit rest k false)) p.1 ∙ bit_at_clear_same w64 rest k small)
      (eqb-true (bit_at (with_bit rest k false) n) 1 is))
  | inr p ↦ left n below (sym (ap (λ b. eqb b 1) (bit_at_clear_other w64 rest k small n below p.1)) ∙ is)
]

-- pins that have in each lane what its machine has there are, in a lane, the values of the gate's pins
pub stuck_pins : (faults : List Fault) (k g : ℕ) (words : List Lanes) (args : List NetId) (old pins : List Lanes)
    → k < 64 → length args ≤ 255 → length pins ≡ 256
    → ((i n : ℕ) → i < length args → lane_env n old i ≡ lane_env n words (get_or args i no_net).0)
    → ((i n : ℕ) → i < 256 → n < 64 → lane_env n pins i ≡ (rules_at faults n).pin g i (lane_env n old i))
    → map (λ (w : Lanes). lane w k) (take (length args) pins)
    ≡ pin_values (rules_at faults k) g (lane_env k words) 0 args
stuck_pins faults k g words args old pins below few room read stuck =
    let all = map (λ (w : Lanes). lane w k) (take (length args) pins) in
    let env = lane_env k words in
    let want = pin_values (rules_at faults k) g (lane_env k words) 0 args in
    let short : length (take (length args) pins) ≡ length args = length-take-le (length args) pins (omega arith) in
    let a : length all ≡ length args = length-map (take (length args) pins) (λ (w : Lanes). lane w k) ∙ short in
    let b : length want ≡ length args = pins_length (rules_at faults k) g (lane_env k words) 0 args in
    ext_get_or Unk all want (a ∙ sym b)
    (λ i inside.
    let within : i < length args = omega (arith, a, inside) in
    let start : 0 + i ≡ i = omega arith in
    get_or-map (λ (w : Lanes). lane w k) (take (length args) pins) i (every_lane Unk) Unk (omega (arith, short, within))
    ∙ (ap (λ (w : Lanes). lane w k) (get_or-take (length args) pins i (every_lane Unk) within)
    ∙ (sym (lane_get k below pins i)
    ∙ (stuck i k (omega arith) below
    ∙ (ap ((rules_at faults k).pin g i)
    (read i k within)
    ∙ (ap (λ m. (rules_at faults k).pin g m (env (get_or args i no_net).0)) (sym start)
    ∙ sym (pins_get (rules_at faults k) g env 0 args i Unk within)))))))
