-- Which lines are listed.
use Rattle.std.proofs.Common.{◌≡◌, ◌<◌, ◌≤◌, ◌+◌, ◌/◌, ◌%◌, ℕ, suc, zero, List, [], ◌∷◌, ◌++◌, Bool, true, false, cond, length, get_or, map, refl, sym, ◌∙◌, ap, arith, inl, inr, subst}
use Rattle.std.specs.Prelude.{◌↔◌}
use Rattle.std.specs.List.{Contains, filter, flat_map, range_with_len}
use Rattle.std.proofs.lemmas.Bool.{lt-ltb, ltb-true}
use Rattle.std.proofs.lemmas.Bool.Decides.{eqb_tells}
use Rattle.std.proofs.lemmas.List.Elements.{All-filter, filter_passes, All-contains, All-contains_itself, Contains-append_left, Contains-append_right, Contains-append_cases, Contains-get_or}
use Rattle.std.proofs.lemmas.List.FromFn.{length-map-range_with_len, get_or-map-range_with_len}
use Rattle.ht_net.specs.declared.fault.Site.{Site}
use Rattle.ht_net.specs.declared.fault.Site.TheVariants.{Stem, DffPin, GatePin}
use Rattle.ht_net.specs.declared.fault.Fault.{Fault}
use Rattle.ht_net.specs.Circuit.Netlist.{Netlist, net_count, gate_at, no_net}
use Rattle.ht_faults.specs.Sites.{stems_of}
use Rattle.ht_faults.specs.Sites.{data_pins_of, pins_of_gate, gate_pins_of, circuit_lines, is_fanout, is_site, IsFaultSite, sites_of, faults_of}
use Rattle.ht_faults.specs.FaultList.{no_fault}
use Rattle.ht_faults.proofs.ListLaws.{faults_count, fault_at, fault_stands}

-- a line of the circuit, a site or not
abbrev IsLine : Netlist → Site → Type 0
IsLine c (Stem x) = x.0 < net_count c
IsLine c (DffPin j) = j < length c.dffs
IsLine c (GatePin g i) = (g < length c.gates) × (i < length (gate_at c g).args)

-- a row of lines by number
pub row_has : (f : ℕ → Site) (n : ℕ) (s : Site) → Contains (map f (range_with_len 0 n)) s → (i : ℕ) × (i < n)
    × (f i ≡ s)
row_has f n s (i, inside, is) =
    let lt : i < n = omega (arith, inside, length-map-range_with_len f 0 n) in
    (i, lt, sym (get_or-map-range_with_len f 0 n i i s lt (omega arith)) ∙ is)

row_holds : (f : ℕ → Site) (n i : ℕ) → i < n → Contains (map f (range_with_len 0 n)) (f i)
row_holds f n i lt = (
  i,
  omega (arith, length-map-range_with_len f 0 n),
  get_or-map-range_with_len f 0 n i i (f i) lt
      (omega arith),
)

gate_pin_line : (c : Netlist) (a n : ℕ) (s : Site) → a + n ≤ length c.gates
    → Contains (flat_map (pins_of_gate c) (range_with_len a n)) s → IsLine c s
gate_pin_line c a zero s h (k, inside, is) = absurd (omega arith)
gate_pin_line c a (suc n) s h has = elim
    (Contains-append_cases (pins_of_gate c a) (flat_map (pins_of_gate c) (range_with_len (a + 1) n)) s has) [
      | inl here ↦
          let pin = row_has (λ i. GatePin a i) (length (gate_at c a).args) s here in
          let lt : a < length c.gates = omega arith in
          subst (IsLine c) pin.2 (lt, pin.1)
      | inr later ↦ gate_pin_line c (a + 1) n s (omega arith) later
    ]

line_gate_pin : (c : Netlist) (a n g i : ℕ) → a ≤ g → g < a + n → i < length (gate_at c g).args
    → Contains (flat_map (pins_of_gate c) (range_with_len a n)) (GatePin g i)
line_gate_pin c a zero g i low high inside = absurd (omega arith)
line_gate_pin c a (suc n) g i low high inside = elim (eqb_tells g a) [
  | inl p ↦
      let e : g ≡ a = p.1 in
      Contains-append_left (pins_of_gate c a) (flat_map (pins_of_gate c) (range_with_len (a + 1) n)) (GatePin g i)
      (subst (λ (k : ℕ). Contains (pins_of_gate c k) (GatePin g i)) e
      (row_holds (λ k. GatePin g k) (length (gate_at c g).args) i inside))
  | inr p ↦
      let ne = p.1 in
      Contains-append_right (pins_of_gate c a) (flat_map (pins_of_gate c) (range_with_len (a + 1) n)) (GatePin g i)
      (line_gate_pin c (a + 1) n g i (omega arith) (omega arith) inside)
]

is_line : (c : Netlist) (s : Site) → Contains (circuit_lines c) s → IsLine c s
is_line c s has = elim (Contains-append_cases (stems_of c) (data_pins_of c ++ gate_pins_of c) s has) [
  | inl stem ↦
      let x = row_has (λ x. Stem (record { 0 = x })) (net_count c) s stem in
      subst (IsLine c) x.2 x.1
  | inr pin ↦ elim (Contains-append_cases (data_pins_of c) (gate_pins_of c) s pin) [
    | inl data_pin ↦
        let j = row_has (λ j. DffPin j) (length c.dffs) s data_pin in
        subst (IsLine c) j.2 j.1
    | inr gate_pin ↦ gate_pin_line c 0 (length c.gates) s (omega arith) gate_pin
  ]
]

line_is : (c : Netlist) (s : Site) → IsLine c s → Contains (circuit_lines c) s
line_is c (Stem x) inside =
    Contains-append_left (stems_of c) (data_pins_of c ++ gate_pins_of c) (Stem x)
    (row_holds (λ x. Stem (record { 0 = x })) (net_count c) x.0 inside)
line_is c (DffPin j) inside =
    Contains-append_right (stems_of c) (data_pins_of c ++ gate_pins_of c) (DffPin j)
    (Contains-append_left (data_pins_of c) (gate_pins_of c) (DffPin j)
    (row_holds (λ j. DffPin j) (length c.dffs) j inside))
line_is c (GatePin g i) inside =
    Contains-append_right (stems_of c) (data_pins_of c ++ gate_pins_of c) (GatePin g i)
    (Contains-append_right (data_pins_of c) (gate_pins_of c) (GatePin g i)
    (line_gate_pin c 0 (length c.gates) g i (omega arith) (omega (arith, inside.0)) inside.1))

later : (b : Bool) (x : Site) (ys : List Site) (s : Site) → Contains ys s → Contains (cond b (x ∷ ys) ys) s
later true x ys s has = Contains-append_right (x ∷ []) ys s has
later false x ys s has = has

-- what stands in a list and passes stands in the filtered list
kept_if : (p : Site → Bool) (xs : List Site) (s : Site) → p s ≡ true → Contains xs s → Contains (filter p xs) s
kept_if p [] s t (k, inside, is) = absurd (omega arith)
kept_if p (x ∷ xs) s t (zero, inside, is) =
    let here : p x ≡ true = ap p is ∙ t in
    subst (λ (b : Bool). Contains (cond b (x ∷ filter p xs) (filter p xs)) s) (sym here) (0, omega arith, is)
kept_if p (x ∷ xs) s t (suc k, inside, is) = later (p x) x (filter p xs) s (kept_if p xs s t (k, omega arith, is))

site_test : (c : Netlist) (s : Site) → IsLine c s → is_site c s ≡ true → IsFaultSite c s
unfolding is_fanout
site_test c (Stem x) line t = line
site_test c (DffPin j) line t = (line, ltb-true _ _ t)
site_test c (GatePin g i) line t = (line.0, line.1, ltb-true _ _ t)

site_passes : (c : Netlist) (s : Site) → IsFaultSite c s → is_site c s ≡ true
unfolding is_fanout
site_passes c (Stem x) site = refl
site_passes c (DffPin j) site = lt-ltb _ _ site.1
site_passes c (GatePin g i) site = lt-ltb _ _ site.2

site_line : (c : Netlist) (s : Site) → IsFaultSite c s → IsLine c s
site_line c (Stem x) site = site
site_line c (DffPin j) site = site.0
site_line c (GatePin g i) site = (site.0, site.1)

listed_site : (c : Netlist) (s : Site) → Contains (sites_of c) s → IsFaultSite c s
listed_site c s has =
    site_test c s
    (is_line c s (All-contains (Contains (circuit_lines c)) (sites_of c) s
    (All-filter (is_site c) (Contains (circuit_lines c)) (circuit_lines c) (All-contains_itself (circuit_lines c)))
    has))
    (All-contains (λ (t : Site). is_site c t ≡ true) (sites_of c) s (filter_passes (is_site c) (circuit_lines c)) has)

-- Exactly the sites are listed.
pub sites_listed : (c : Netlist) (s : Site) → Contains (sites_of c) s ↔ IsFaultSite c s
sites_listed c s = (
  listed_site c s,
  λ site. kept_if (is_site c) (circuit_lines c) s (site_passes c s site)
      (line_is c s (site_line c s site)),
)

-- Each fault of the list stands on a site.
pub fault_site : (c : Netlist) (i : ℕ) → i < length (faults_of c) → IsFaultSite c (get_or (faults_of c) i no_fault).site
fault_site c i inside =
    let sites = sites_of c in
    let count = faults_count sites in
    let at = get_or sites (i / 2) (Stem no_net) in
    let is = ap (λ (f : Fault). f.site) (fault_at sites i (Stem no_net) no_fault (omega (arith, count))) ∙ fault_stands
    at (i % 2) no_fault (omega arith) in
    subst (IsFaultSite c) (sym is)
    (listed_site c (get_or sites (i / 2) (Stem no_net))
    (Contains-get_or sites (i / 2) (Stem no_net) (omega (arith, count))))
