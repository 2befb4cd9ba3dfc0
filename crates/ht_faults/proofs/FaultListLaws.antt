-- The fault list by number: the stems' faults first, and each fault once.
use Rattle.std.proofs.Common.{◌≡◌, ◌<◌, ◌≤◌, ◌+◌, ◌*◌, ◌/◌, ◌%◌, ℕ, List, ◌++◌, Bool, true, false, length, get_or, refl, sym, ◌∙◌, ap, arith, inl, inr, length-append}
use Rattle.std.specs.List.{filter}
use Rattle.std.proofs.lemmas.Bool.{cases_lt}
use Rattle.std.proofs.lemmas.List.{get_or_append_left}
use Rattle.std.proofs.lemmas.List.Elements.{filter-append}
use Rattle.std.proofs.lemmas.List.FromFn.{get_or-map-range_with_len, length-map-range_with_len}
use Rattle.ht_net.specs.declared.fault.Site.{Site}
use Rattle.ht_net.specs.declared.fault.Site.TheVariants.{Stem}
use Rattle.ht_net.specs.Circuit.Netlist.{Netlist, net_count, no_net}
use Rattle.ht_faults.specs.Sites.{stems_of}
use Rattle.ht_faults.specs.Sites.{data_pins_of, gate_pins_of, is_site, sites_of, faults_of}
use Rattle.ht_faults.specs.FaultList.{no_fault}
use Rattle.ht_faults.proofs.ListLaws as by_site
use Rattle.ht_faults.proofs.DistinctLaws.{faults_differ}
use Rattle.ht_faults.proofs.SiteLaws.{stems_kept}
use Rattle.ht_faults.specs.Classes.{fault_at}
use Rattle.ht_faults.specs.Leaders.{stem_number}

-- No fault stands at two places of the list.
pub listed_once : (c : Netlist) (i j : ℕ) → i < length (faults_of c) → j < length (faults_of c) → fault_at c i
    ≡ fault_at c j → i ≡ j
listed_once c i j inside there same = elim (cases_lt i j) [
  | inl less ↦ absurd (faults_differ c i j less there same)
  | inr h ↦ elim (cases_lt j i) [
    | inl less ↦ absurd (faults_differ c j i less inside (sym same))
    | inr k ↦ omega arith
  ]
]

sites_begin : (c : Netlist) → sites_of c ≡ stems_of c ++ filter (is_site c) (data_pins_of c ++ gate_pins_of c)
sites_begin c =
    filter-append (is_site c) (stems_of c) (data_pins_of c ++ gate_pins_of c)
    ∙ ap (λ (l : List Site). l ++ filter (is_site c) (data_pins_of c ++ gate_pins_of c)) (stems_kept c 0 (net_count c))

stem_site_at : (c : Netlist) (x : ℕ) → x < net_count c → get_or (sites_of c) x (Stem no_net) ≡ Stem (record { 0 = x })
stem_site_at c x inside =
    let long = length-map-range_with_len (λ x. Stem (record { 0 = x })) 0 (net_count c) in
    ap (λ (l : List Site). get_or l x (Stem no_net)) (sites_begin c)
    ∙ (get_or_append_left (stems_of c) (filter (is_site c) (data_pins_of c ++ gate_pins_of c)) (Stem no_net) x
    (omega arith)
    ∙ get_or-map-range_with_len (λ x. Stem (record { 0 = x })) 0 (net_count c) x x (Stem no_net) inside (omega arith))

-- The stems' faults are among the faults.
pub stems_listed : (c : Netlist) → 2 * net_count c ≤ length (faults_of c)
stems_listed c =
    let count = by_site.faults_count (sites_of c) in
    let long = length-map-range_with_len (λ x. Stem (record { 0 = x })) 0 (net_count c) in
    let all = ap (λ (l : List Site). length l) (sites_begin c) in
    let split = length-append (stems_of c) (filter (is_site c) (data_pins_of c ++ gate_pins_of c)) in
    omega (arith, count, long, all, split)

-- the faults of net x's stem are in the fault list at index 2 * x for stuck-at-0, at 2 * x + 1 for stuck-at-1
pub stem_listed : (c : Netlist) (x : ℕ) (v : Bool) → x < net_count c → fault_at c (stem_number x v)
    ≡ record { site = Stem (record { 0 = x }); value = v }
stem_listed c x false inside =
    let count = by_site.faults_count (sites_of c) in
    let some = stems_listed c in
    let half : (2 * x) / 2 ≡ x = omega arith in
    let even : (2 * x) % 2 ≡ 0 = omega arith in
    by_site.fault_at (sites_of c) (2 * x) (Stem no_net) no_fault (omega arith)
    ∙ rw (half, even, stem_site_at c x inside) refl
stem_listed c x true inside =
    let count = by_site.faults_count (sites_of c) in
    let some = stems_listed c in
    let half : (2 * x + 1) / 2 ≡ x = omega arith in
    let odd : (2 * x + 1) % 2 ≡ 1 = omega arith in
    by_site.fault_at (sites_of c) (2 * x + 1) (Stem no_net) no_fault (omega arith)
    ∙ rw (half, odd, stem_site_at c x inside) refl

-- the numbers of the faults of stems
pub number_same : (x y : ℕ) (u v : Bool) → stem_number x u ≡ stem_number y v → (x ≡ y) × (u ≡ v)
number_same x y false false e = (omega arith, refl)
number_same x y true true e = (omega arith, refl)
number_same x y false true e = absurd (omega arith)
number_same x y true false e = absurd (omega arith)

-- the faults of the first n nets' stems have numbers below 2 * n
pub number_below : (x n : ℕ) (v : Bool) → x < n → stem_number x v < 2 * n
number_below x n false h = omega arith
number_below x n true h = omega arith
