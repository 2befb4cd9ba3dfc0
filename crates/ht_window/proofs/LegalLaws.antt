-- Which variables a window has.
use Rattle.std.proofs.Common.{◌≡◌, ◌<◌, ◌+◌, ◌-◌, ◌/◌, ◌%◌, ◌⊎◌, inl, inr, ℕ, List, Bool, true, false, ◌||◌, length, refl, arith}
use Rattle.std.specs.Prelude.{ltb, leb, ◌&&◌}
use Rattle.std.proofs.lemmas.Bool.Decides.{nat_tests}
use Rattle.std.proofs.lemmas.Bool.{ltb-true}
use Rattle.ht_tern.specs.declared.tern.Tern.{Tern}
use Rattle.ht_net.specs.Circuit.Netlist.{Netlist, first_gate_net}
use Rattle.ht_net.proofs.FrameLaws.{le_or_lt}
use Rattle.ht_tree.specs.Window.Decisions.{is_in}
use Rattle.ht_tree.specs.Window.Windows.{SearchWindow, Start, one_frame, unknown, state_pair, back, IsWindow, first_input}
use Rattle.ht_tree.specs.Window.Variables.{two_of_start, three_of_start, is_latch, is_faulty_latch}
use Rattle.ht_tree.proofs.BeginLaws.{some_frame}
use Rattle.ht_window.specs.States.{IsLegalDecision}
use Rattle.ht_window.specs.Cells.{var_frame, var_net}
use Rattle.ht_window.proofs.PlaceLaws.{rows_frame, rows_local}
use Rattle.ht_window.proofs.VariableLaws.{high_frame, good_net, faulty_net}

-- a variable of a latch
and_right : (a b : Bool) → (a && b) ≡ true → b ≡ true
and_right true b h = h
and_right false b h = cc

and_left : (a b : Bool) → (a && b) ≡ true → a ≡ true
and_left true b h = refl
and_left false b h = cc

or_small : {X : Type 0} → (a b : Bool) → (a || b) ≡ true → (a ≡ true → X) → (b ≡ true → X) → X
or_small true b h f g = f refl
or_small false b h f g = g h

latch_less : (c : Netlist) (var : ℕ) → is_latch c var ≡ true → var < first_gate_net c
latch_less c var h = ltb-true var (first_gate_net c) (and_right (leb c.inputs var) (ltb var (first_gate_net c)) h)

latch_small : (c : Netlist) (var : ℕ) → is_latch c var ≡ true → var < first_gate_net c + length c.dffs
latch_small c var h = let l = latch_less c var h in omega (arith, l)

faulty_small : (c : Netlist) (z : List ℕ) (var : ℕ) → is_faulty_latch c z var ≡ true → var < first_gate_net c
    + length c.dffs
faulty_small c z var h = ltb-true var (first_gate_net c + length c.dffs)
    (and_left (ltb var (first_gate_net c + length c.dffs)) (is_in z (var - first_gate_net c))
    (and_right (leb (first_gate_net c) var)
    (ltb var (first_gate_net c + length c.dffs) && is_in z (var - first_gate_net c)) h))

two_small : (c : Netlist) (s : Start) (var : ℕ) → two_of_start c s var ≡ true → var < first_gate_net c
    + length c.dffs
two_small c (one_frame z) var h = or_small (is_latch c var) (is_faulty_latch c z var) h (λ e. latch_small c var e)
    (λ e. faulty_small c z var e)
two_small c unknown var h = cc
two_small c (state_pair good faulty) var h = cc
two_small c (back cube limit) var h = cc

three_small : (c : Netlist) (s : Start) (var : ℕ) → three_of_start c s var ≡ true → var < first_gate_net c
three_small c (one_frame z) var h = cc
three_small c unknown var h = cc
three_small c (state_pair good faulty) var h = cc
three_small c (back cube limit) var h = latch_less c var h

-- a window has one frame or more
pub some_frames : (w : SearchWindow) → IsWindow w → 0 < w.frames
some_frames w valid = some_frame w.circuit w.fault w.frames w.start valid.start

legal_var : (w : SearchWindow) (var : ℕ) (v : Tern) → IsLegalDecision w var v → (var < first_input w w.frames)
    ⊎ (var < first_gate_net w.circuit + length w.circuit.dffs)
legal_var w var v (inl two) = elim (le_or_lt (first_input w w.frames) var) [
  | inr low ↦ inl low
  | inl high ↦ inr (two_small w.circuit w.start var (let h = two.0 in grind (arith, nat_tests, high, h)))
]
legal_var w var v (inr three) = let h = three_small w.circuit w.start var three in inr (omega (arith, h))

-- the frame of a variable is one of the window's
pub legal_frame : (w : SearchWindow) → IsWindow w → (var : ℕ) → var_frame w var < w.frames
legal_frame w valid var = elim (le_or_lt (first_input w w.frames) var) [
  | inl high ↦ let e = high_frame w var high in let s = some_frames w valid in omega (arith, e, s)
  | inr low ↦ let h = rows_frame w.circuit.inputs w.frames var low in let e : var_frame w var
      ≡ var / w.circuit.inputs = grind (arith, nat_tests, low) in omega (arith, e, h)
]

-- a legal decision is of an input or a latch
pub legal_net : (w : SearchWindow) (var : ℕ) (v : Tern) → IsLegalDecision w var v
    → var_net w var < first_gate_net w.circuit
legal_net w var v legal = elim (le_or_lt (first_input w w.frames) var) [
  | inr low ↦ let h = rows_local w.circuit.inputs w.frames var low in let e : var_net w var
      ≡ var % w.circuit.inputs = grind (arith, nat_tests, low) in omega (arith, e, h)
  | inl high ↦ elim (le_or_lt (first_gate_net w.circuit) var) [
    | inr good ↦ let e = good_net w var high good in omega (arith, e, good)
    | inl faulty ↦ let e = faulty_net w var high faulty in elim (legal_var w var v legal) [
      | inl low ↦ absurd (omega (arith, low, high))
      | inr small ↦ omega (arith, e, small, faulty)
    ]
  ]
]
