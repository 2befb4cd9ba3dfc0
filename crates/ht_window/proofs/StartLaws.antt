-- The marks of a start, and a latch of the first frame.
use Rattle.std.proofs.Common.{◌≡◌, ◌<◌, ◌+◌, ℕ, suc, zero, List, [], ◌∷◌, Bool, true, false, ◌||◌, cond, eqb, Option, get_or, refl, sym, ◌∙◌, ap, inl, inr, arith}
use Rattle.std.proofs.lemmas.Bool.Decides.{eqb_tells}
use Rattle.ht_tern.specs.declared.tern.Tern.{Tern}
use Rattle.ht_pairs.specs.Pairs.{Pair}
use Rattle.ht_net.specs.Circuit.Netlist.{first_gate_net}
use Rattle.ht_tree.specs.Window.Decisions.{is_in, decided_value, latch_pairs}
use Rattle.ht_tree.specs.Window.Windows.{Start, one_frame, first_latch}
use Rattle.ht_window.specs.Starts.{marked}
use Rattle.ht_window.specs.Standing.{Standing}

-- the marks that are set
is_in_cond : (b : Bool) (j k : ℕ) (rest : List ℕ) → is_in (cond b (j ∷ rest) rest) k
    ≡ (cond b (eqb j k) false || is_in rest k)
is_in_cond true j k rest = refl
is_in_cond false j k rest = refl

or_no : (m b : Bool) → b ≡ false → (cond m true false || b) ≡ m
or_no true b e = refl
or_no false b e = e

or_other : (m b : Bool) → (cond m false false || b) ≡ b
or_other true b = refl
or_other false b = refl

below_out : (j k : ℕ) (marks : List Bool) → k < j → is_in (marked j marks) k ≡ false
below_out j k [] h = refl
below_out j k (mark ∷ marks) h =
    let ne : eqb j k ≡ false = elim (eqb_tells j k)
    [ inl p ↦ let e = p.1 in absurd (omega (arith, e, h)) | inr p ↦ p.0 ] in
    is_in_cond mark j k (marked (j + 1) marks) ∙
    (ap (λ (b : Bool). cond mark b false || is_in (marked (j + 1) marks) k) ne
    ∙ (or_other mark (is_in (marked (j + 1) marks) k) ∙ below_out (j + 1) k marks (omega (arith, h))))

-- a number is among the set marks just where its mark is set
pub marked_is : (j k : ℕ) (marks : List Bool) → is_in (marked j marks) (j + k) ≡ get_or marks k false
marked_is j k [] = refl
marked_is j zero (mark ∷ marks) =
    let at : j + 0 ≡ j = omega arith in
    let same : eqb j j ≡ true = elim (eqb_tells j j) [ inl p ↦ p.0 | inr p ↦ absurd (p.1 refl) ] in
    ap (is_in (marked j (mark ∷ marks))) at ∙ (is_in_cond mark j j (marked (j + 1) marks)
    ∙ (ap (λ (b : Bool). cond mark b false || is_in (marked (j + 1) marks) j) same ∙ or_no mark
    (is_in (marked (j + 1) marks) j) (below_out (j + 1) j marks (omega arith))))
marked_is j (suc k) (mark ∷ marks) =
    let at : j + suc k ≡ j + 1 + k = omega arith in
    let ne : eqb j (j + suc k) ≡ false = elim (eqb_tells j (j + suc k))
    [ inl p ↦ let e = p.1 in absurd (omega (arith, e)) | inr p ↦ p.0 ] in
    is_in_cond mark j (j + suc k) (marked (j + 1) marks) ∙
    (ap (λ (b : Bool). cond mark b false || is_in (marked (j + 1) marks) (j + suc k)) ne
    ∙ (or_other mark (is_in (marked (j + 1) marks) (j + suc k)) ∙
    (ap (is_in (marked (j + 1) marks)) at ∙ marked_is (j + 1) k marks)))

-- a latch of a one-frame window, from the parts that a program reads
pub latch_from : (s : Standing) (z : List Bool) (j : ℕ) (set : List Pair) (halves : Bool) (good faulty : Option Tern)
    (a b : ℕ)
    → s.window.start ≡ one_frame (marked 0 z) → set ≡ latch_pairs halves good faulty → halves ≡ get_or z j false → good
    ≡ decided_value s.path a → faulty ≡ decided_value s.path b
    → a ≡ s.window.circuit.inputs + j → b ≡ first_gate_net s.window.circuit + j → set
    ≡ first_latch s.window s.window.start s.path j
latch_from s z j set halves good faulty a b start is h g f low high =
    let at : 0 + j ≡ j = omega arith in
    let m : halves ≡ is_in (marked 0 z) j = h ∙ (sym (marked_is 0 j z) ∙ ap (is_in (marked 0 z)) at) in
    let x = g ∙ ap (decided_value s.path) low in
    let y = f ∙ ap (decided_value s.path) high in
    is ∙ ((λ k. latch_pairs (m k) (x k) (y k)) ∙ ap (λ (t : Start). first_latch s.window t s.path j) (sym start))
