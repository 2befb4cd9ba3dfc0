-- A circuit with some lines expanded still has the lines of the circuit.
use Rattle.std.proofs.Common.{◌≡◌, ◌<◌, ◌≤◌, ◌+◌, ◌-◌, ℕ, suc, length, cond, refl, sym, ◌∙◌, ap, subst, arith, inl, inr}
use Rattle.std.specs.Prelude.{ltb}
use Rattle.std.proofs.lemmas.Bool.Decides.{nat_tests}
use Rattle.ht_net.specs.declared.fault.Site.{Site}
use Rattle.ht_net.specs.declared.fault.Site.TheVariants.{Stem, DffPin, GatePin}
use Rattle.ht_net.specs.Circuit.Netlist.{Netlist, first_gate_net, gate_at}
use Rattle.ht_net.proofs.FrameLaws.{le_or_lt}
use Rattle.ht_slow.specs.Slow.{IsLine}
use Rattle.ht_slow.specs.ExpandedLine.{net, moved, moved_line}
use Rattle.ht_slow.specs.Expanded.{line_in, names_over, expand_line}
use Rattle.ht_slow.proofs.Wired.{IsWired}
use Rattle.ht_slow.proofs.WiredLaws.{line_inside}
use Rattle.ht_slow.proofs.DepthLaws.{old_width}
use Rattle.ht_slow.proofs.PlaceLaws.{dffs_length, gates_length}

-- e has what c has, and perhaps more flip-flops and gates
pub record IsOver (c e : Netlist) : Type 0 where
  pub inputs : e.inputs ≡ c.inputs
  pub dffs : length c.dffs ≤ length e.dffs
  pub gates : length c.gates ≤ length e.gates
  pub widths : (g : ℕ) → g < length c.gates → length (gate_at e g).args ≡ length (gate_at c g).args

pub over_itself : (c : Netlist) → IsOver c c
over_itself c = record { inputs = refl; dffs = omega arith; gates = omega arith; widths = λ g h. refl }

-- the number of a stem's net in e
abbrev pub up : Netlist → Netlist → ℕ → ℕ
up c e x = cond (ltb x (first_gate_net c)) x (x + (length e.dffs - length c.dffs))

up_low : (c e : Netlist) (x : ℕ) → x < first_gate_net c → up c e x ≡ x
up_low c e x h = grind (arith, nat_tests)

up_high : (c e : Netlist) (x : ℕ) → first_gate_net c ≤ x → up c e x ≡ x + (length e.dffs - length c.dffs)
up_high c e x h = grind (arith, nat_tests)

-- a line of c is one of e
pub line_stays : (c e : Netlist) → IsOver c e → (site : Site) → IsLine c site → IsLine e (line_in c e site)
line_stays c e over (Stem x) h =
    let i = over.inputs in let d = over.dffs in let g = over.gates in
    elim (le_or_lt (first_gate_net c) x.0) [
      | inl k ↦ let u = up_high c e x.0 k in omega (arith, u, i, d, g, h)
      | inr k ↦ let u = up_low c e x.0 k in omega (arith, u, i, d, g, h)
    ]
line_stays c e over (DffPin j) h = let d = over.dffs in omega (arith, d, h)
line_stays c e over (GatePin g i) h =
    let n = over.gates in let k = h.0 in
    (omega (arith, n, k), subst (λ (w : ℕ). i < w) (sym (over.widths g h.0)) h.1)

-- different lines of c are different in e
pub up_once : (c e : Netlist) (x y : ℕ) → up c e x ≡ up c e y → x ≡ y
up_once c e x y h = elim (le_or_lt (first_gate_net c) x) [
  | inl k ↦ let u = up_high c e x k in elim (le_or_lt (first_gate_net c) y) [
    | inl l ↦ let w = up_high c e y l in omega (arith, u, w, h)
    | inr l ↦ let w = up_low c e y l in omega (arith, u, w, h)
  ]
  | inr k ↦ let u = up_low c e x k in elim (le_or_lt (first_gate_net c) y) [
    | inl l ↦ let w = up_high c e y l in omega (arith, u, w, h)
    | inr l ↦ let w = up_low c e y l in omega (arith, u, w, h)
  ]
]

-- the net of a stem, else 0
abbrev pub stem_number : Site → ℕ
stem_number (Stem x) = x.0
stem_number (DffPin j) = 0
stem_number (GatePin g i) = 0

pub lines_once : (c e : Netlist) (s t : Site) → line_in c e s ≡ line_in c e t → s ≡ t
lines_once c e (Stem x) (Stem y) h = ap (λ (n : ℕ). Stem (net n)) (up_once c e x.0 y.0 (ap stem_number h))
lines_once c e (Stem x) (DffPin j) h = absurd cc
lines_once c e (Stem x) (GatePin g i) h = absurd cc
lines_once c e (DffPin j) (Stem x) h = absurd cc
lines_once c e (DffPin j) (DffPin k) h = h
lines_once c e (DffPin j) (GatePin g i) h = absurd cc
lines_once c e (GatePin g i) (Stem x) h = absurd cc
lines_once c e (GatePin g i) (DffPin j) h = absurd cc
lines_once c e (GatePin g i) (GatePin h k) is = is

pub line_here : (c : Netlist) (site : Site) → line_in c c site ≡ site
line_here c (Stem x) = ap (λ (n : ℕ). Stem (net n)) (elim (le_or_lt (first_gate_net c) x.0) [
  | inl k ↦ let u = up_high c c x.0 k in let z : up c c x.0 ≡ x.0 = omega (arith, u) in z
  | inr k ↦ up_low c c x.0 k
])
line_here c (DffPin j) = refl
line_here c (GatePin g i) = refl

-- how many there are with one line more expanded
pub dffs_more : (c e : Netlist) (site : Site) → length (expand_line c e site).dffs ≡ suc (length e.dffs)
dffs_more c e site = dffs_length e (line_in c e site) 0 e.dffs

pub gates_more : (c e : Netlist) (site : Site) → length (expand_line c e site).gates ≡ length e.gates + 2
gates_more c e site = gates_length e (line_in c e site) 0 e.gates

pub over_more : (c e : Netlist) → IsOver c e → IsWired e → (site : Site) → IsLine c site
    → IsOver c (expand_line c e site)
over_more c e over wired site line =
    let d = dffs_more c e site in let g = gates_more c e site in
    let dd = over.dffs in let gg = over.gates in
    let there = line_stays c e over site line in
    record {
      inputs = over.inputs;
      dffs = omega (arith, d, dd);
      gates = omega (arith, g, gg);
      widths = λ k h. old_width e (line_in c e site) (names_over c e site) wired.depth wired.deep
          (line_inside e (line_in c e site) wired there) k (omega (arith, gg, h)) ∙ over.widths k h;
    }

-- a line of c moves with what is expanded
pub line_moves : (c e : Netlist) → IsOver c e → (site line : Site)
    → moved_line e (line_in c e line) ≡ line_in c (expand_line c e site) line
line_moves c e over site (Stem x) =
    let d = dffs_more c e site in let dd = over.dffs in let i = over.inputs in
    let big : Netlist = expand_line c e site in
    ap (λ (n : ℕ). Stem (net n)) (elim (le_or_lt (first_gate_net c) x.0) [
      | inl k ↦
          let u = up_high c e x.0 k in
          let w = up_high c big x.0 k in
          let m : moved e (up c e x.0) ≡ suc (up c e x.0) = grind (arith, nat_tests) in
          let z : moved e (up c e x.0) ≡ up c big x.0 = omega (arith, u, w, m, d, dd) in z
      | inr k ↦
          let u = up_low c e x.0 k in
          let w = up_low c big x.0 k in
          let m : moved e (up c e x.0) ≡ up c e x.0 = grind (arith, nat_tests) in
          m ∙ (u ∙ sym w)
    ])
line_moves c e over site (DffPin j) = refl
line_moves c e over site (GatePin g i) = refl
