-- No line and no fault is listed twice.
use Rattle.std.proofs.Common.{◌≡◌, ◌≢◌, ◌<◌, ◌≤◌, ◌+◌, ◌-◌, ◌/◌, ◌%◌, ℕ, suc, zero, List, ◌++◌, true, false, length, get_or, map, refl, sym, ◌∙◌, ap, arith, inl, inr}
use Rattle.std.specs.List.{Contains, AllPairs, flat_map, range_with_len}
use Rattle.std.proofs.lemmas.Bool.Decides.{eqb_tells}
use Rattle.std.proofs.lemmas.List.{get_or_append_left, get_or-append_right, length-append}
use Rattle.std.proofs.lemmas.List.Elements.{Contains-append_cases, Contains-get_or}
use Rattle.std.proofs.lemmas.List.FromFn.{length-map-range_with_len, get_or-map-range_with_len}
use Rattle.std.proofs.lemmas.List.Kept.{AllPairs-filter}
use Rattle.ht_net.specs.declared.fault.Site.{Site}
use Rattle.ht_net.specs.declared.fault.Site.TheVariants.{Stem, DffPin, GatePin}
use Rattle.ht_net.specs.declared.fault.Fault.{Fault}
use Rattle.ht_net.specs.Circuit.Netlist.{Netlist, net_count, gate_at, no_net}
use Rattle.ht_faults.specs.Sites.{stems_of, site_faults}
use Rattle.ht_net.proofs.FrameLaws.{le_or_lt}
use Rattle.ht_faults.specs.Sites.{data_pins_of, pins_of_gate, gate_pins_of, circuit_lines, is_site, sites_of, faults_of}
use Rattle.ht_faults.specs.FaultList.{no_fault}
use Rattle.ht_faults.proofs.ListLaws.{faults_count, fault_at, fault_stands}
use Rattle.ht_faults.proofs.MemberLaws.{row_has}

abbrev Differ : Site → Site → Type 0
Differ s t = s ≢ t

-- what kind of line a site is, and its numbers
abbrev kind_of : Site → ℕ
kind_of (Stem x) = 0
kind_of (DffPin j) = 1
kind_of (GatePin g i) = 2

abbrev first_of : Site → ℕ
first_of (Stem x) = x.0
first_of (DffPin j) = j
first_of (GatePin g i) = g

abbrev pin_of : Site → ℕ
pin_of (Stem x) = 0
pin_of (DffPin j) = 0
pin_of (GatePin g i) = i

row_differs : (f : ℕ → Site) (number : Site → ℕ) → ((i : ℕ) → number (f i) ≡ i) → (n : ℕ)
    → AllPairs Differ (map f (range_with_len 0 n))
row_differs f number is n i j d lt inside e =
    let below : j < n = omega (arith, inside, length-map-range_with_len f 0 n) in
    let at_i = get_or-map-range_with_len f 0 n i i d (omega arith) (omega arith) in
    let at_j = get_or-map-range_with_len f 0 n j j d below (omega arith) in
    let same : i ≡ j = sym (is i) ∙ (ap number (sym at_i ∙ (e ∙ at_j)) ∙ is j) in
    absurd (omega arith)

parts_differ : (xs ys : List Site) → AllPairs Differ xs → AllPairs Differ ys
    → ((s t : Site) → Contains xs s → Contains ys t → s ≢ t) → AllPairs Differ (xs ++ ys)
parts_differ xs ys left right across i j d lt inside e = elim (le_or_lt (length xs) j) [
  | inr within ↦ left i j d lt within
      (sym (get_or_append_left xs ys d i (omega arith)) ∙ (e ∙ get_or_append_left xs ys d j within))
  | inl past ↦
      let count = length-append xs ys in
      let low : j - length xs < length ys = omega arith in
      let at_j = get_or-append_right xs ys (length xs) j d refl past in
      elim (le_or_lt (length xs) i) [
        | inr within ↦
            across (get_or xs i d) (get_or ys (j - length xs) d) (Contains-get_or xs i d within)
            (Contains-get_or ys (j - length xs) d low)
            (sym (get_or_append_left xs ys d i within) ∙ (e ∙ at_j))
        | inl also ↦
            right (i - length xs) (j - length xs) d (omega arith) low
            (sym (get_or-append_right xs ys (length xs) i d refl also) ∙ (e ∙ at_j))
      ]
]

-- a gate's pins have its number
gate_of_pin : (c : Netlist) (a n : ℕ) (s : Site) → Contains (flat_map (pins_of_gate c) (range_with_len a n)) s
    → (kind_of s ≡ 2) × (a ≤ first_of s)
gate_of_pin c a zero s (k, inside, is) = absurd (omega arith)
gate_of_pin c a (suc n) s has = elim
    (Contains-append_cases (pins_of_gate c a) (flat_map (pins_of_gate c) (range_with_len (a + 1) n)) s has) [
      | inl here ↦
          let pin = row_has (λ i. GatePin a i) (length (gate_at c a).args) s here in
          let number : a ≡ first_of s = ap first_of pin.2 in
          (sym (ap kind_of pin.2), omega (arith, number))
      | inr later ↦
          let rest = gate_of_pin c (a + 1) n s later in
          (rest.0, omega (arith, rest.1))
    ]

gate_pins_differ : (c : Netlist) (a n : ℕ) → AllPairs Differ (flat_map (pins_of_gate c) (range_with_len a n))
gate_pins_differ c a zero = λ i j d lt inside e. absurd (omega arith)
gate_pins_differ c a (suc n) =
    parts_differ (pins_of_gate c a) (flat_map (pins_of_gate c) (range_with_len (a + 1) n))
    (row_differs (λ i. GatePin a i) pin_of (λ i. refl) (length (gate_at c a).args)) (gate_pins_differ c (a + 1) n)
    (λ s t here later e.
    let pin = row_has (λ i. GatePin a i) (length (gate_at c a).args) s here in
    let number : a ≡ first_of t = ap first_of (pin.2 ∙ e) in
    let above = gate_of_pin c (a + 1) n t later in
    absurd (omega (arith, number, above.1)))

lines_differ : (c : Netlist) → AllPairs Differ (circuit_lines c)
lines_differ c =
    let gates = gate_pins_differ c 0 (length c.gates) in
    let pins = parts_differ (data_pins_of c) (gate_pins_of c)
    (row_differs (λ j. DffPin j) first_of (λ j. refl) (length c.dffs)) gates
    (λ s t here later e.
    let j = row_has (λ j. DffPin j) (length c.dffs) s here in
    let kind : 1 ≡ kind_of t = ap kind_of (j.2 ∙ e) in
    absurd (omega (arith, kind, (gate_of_pin c 0 (length c.gates) t later).0))) in
    parts_differ (stems_of c) (data_pins_of c ++ gate_pins_of c)
    (row_differs (λ x. Stem (record { 0 = x })) first_of (λ x. refl) (net_count c)) pins
    (λ s t here later e.
    let x = row_has (λ x. Stem (record { 0 = x })) (net_count c) s here in
    let kind : 0 ≡ kind_of t = ap kind_of (x.2 ∙ e) in
    elim (Contains-append_cases (data_pins_of c) (gate_pins_of c) t later) [
      | inl data_pin ↦
          let j = row_has (λ j. DffPin j) (length c.dffs) t data_pin in
          let one : 1 ≡ kind_of t = ap kind_of j.2 in
          absurd (omega (arith, kind, one))
      | inr gate_pin ↦ absurd (omega (arith, kind, (gate_of_pin c 0 (length c.gates) t gate_pin).0))
    ])

-- the two faults of a site differ
values_differ : (s : Site) (k l : ℕ) (d : Fault) → k < l → l < 2 → get_or (site_faults s) k d ≢ get_or (site_faults s) l
    d
values_differ s zero (suc zero) d lt two e = let v : false ≡ true = ap (λ (f : Fault). f.value) e in cc
values_differ s zero zero d lt two e = absurd (omega arith)
values_differ s (suc k) l d lt two e = absurd (omega arith)
values_differ s zero (suc (suc l)) d lt two e = absurd (omega arith)

-- Each fault is listed once.
pub faults_differ : (c : Netlist) (i j : ℕ) → i < j → j < length (faults_of c)
    → get_or (faults_of c) i no_fault ≢ get_or (faults_of c) j no_fault
faults_differ c i j lt inside e =
    let sites = sites_of c in
    let count = faults_count sites in
    let s = Stem no_net in
    let at_i = fault_at sites i s no_fault (omega (arith, count)) in
    let at_j = fault_at sites j s no_fault (omega (arith, count)) in
    let both = sym at_i ∙ (e ∙ at_j) in
    elim (eqb_tells (i / 2) (j / 2)) [
      | inl p ↦
          let same : get_or sites (i / 2) s ≡ get_or sites (j / 2) s = ap (λ (n : ℕ). get_or sites n s) p.1 in
          values_differ (get_or sites (j / 2) s) (i % 2) (j % 2) no_fault (omega (arith, p.1)) (omega arith)
          (ap (λ (t : Site). get_or (site_faults t) (i % 2) no_fault) (sym same) ∙ both)
      | inr p ↦
          let ne = p.1 in
          let stands = sym (fault_stands (get_or sites (i / 2) s) (i % 2) no_fault (omega arith))
          ∙ (ap (λ (f : Fault). f.site) both ∙ fault_stands (get_or sites (j / 2) s) (j % 2) no_fault (omega arith)) in
          AllPairs-filter Differ (is_site c) (circuit_lines c) (lines_differ c) (i / 2) (j / 2) s (omega arith)
          (omega (arith, count)) stands
    ]
