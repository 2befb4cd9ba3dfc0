-- The sites of a circuit, one more line at a time.
use Rattle.std.proofs.Common.{◌≡◌, ◌≤◌, ◌+◌, ℕ, suc, zero, List, [], ◌∷◌, ◌++◌, Bool, true, false, cond, length, take, map, refl, sym, ◌∙◌, ap, arith, append_assoc, length-append, subst, add-one}
use Rattle.std.specs.List.{filter, flat_map, range_with_len, sum_by}
use Rattle.std.proofs.lemmas.List.{append-nil, take_all, map-id}
use Rattle.std.proofs.lemmas.List.Elements.{filter-append}
use Rattle.std.proofs.lemmas.List.Concat.{flat_map-append}
use Rattle.std.proofs.lemmas.List.FromFn.{length-map-range_with_len, map-range_with_len_more, filter_of_map_range_with_len_more}
use Rattle.std.proofs.lemmas.List.Sums.{length-filter, count_by-le-length, sum_by_more}
use Rattle.ht_net.specs.declared.fault.Site.{Site}
use Rattle.ht_net.specs.declared.fault.Site.TheVariants.{Stem, DffPin, GatePin}
use Rattle.ht_net.specs.Circuit.Netlist.{Netlist, Gate, net_count, pin_count, gate_at, no_gate, IsCircuit}
use Rattle.ht_faults.specs.Sites.{stems_of}
use Rattle.ht_faults.specs.Sites.{data_pins_of, pins_of_gate, gate_pins_of, circuit_lines, is_site, sites_of}

-- One more line of a row: a site is added.
pub one_kept : (p : Site → Bool) (f : ℕ → Site) (old before after : List Site) (n : ℕ)
    → before ≡ old ++ filter p (map f (range_with_len 0 n)) → after ≡ before ++ f n ∷ [] → p (f n) ≡ true
    → after ≡ old ++ filter p (map f (range_with_len 0 (n + 1)))
one_kept p f old before after n is pushed passes =
    pushed ∙ (ap (λ (l : List Site). l ++ f n ∷ []) is ∙
    (append_assoc old (filter p (map f (range_with_len 0 n))) (f n ∷ [])
    ∙ ap (λ (l : List Site). old ++ l)
    (ap (λ (b : Bool). filter p (map f (range_with_len 0 n)) ++ cond b (f n ∷ []) []) (sym passes)
    ∙ sym (filter_of_map_range_with_len_more p f 0 n n (omega arith)))))

-- Another line isn't.
pub one_left : (p : Site → Bool) (f : ℕ → Site) (old before : List Site) (n : ℕ)
    → before ≡ old ++ filter p (map f (range_with_len 0 n)) → p (f n) ≡ false
    → before ≡ old ++ filter p (map f (range_with_len 0 (n + 1)))
one_left p f old before n is fails =
    is ∙ ap (λ (l : List Site). old ++ l) (sym (append-nil (filter p (map f (range_with_len 0 n))))
    ∙ (ap (λ (b : Bool). filter p (map f (range_with_len 0 n)) ++ cond b (f n ∷ []) []) (sym fails)
    ∙ sym (filter_of_map_range_with_len_more p f 0 n n (omega arith))))

-- of the numbers below n one more
pub range_more : (n : ℕ) → range_with_len 0 (n + 1) ≡ range_with_len 0 n ++ n ∷ []
range_more n =
    sym (map-id (range_with_len 0 (n + 1))) ∙ (map-range_with_len_more (λ (x : ℕ). x) 0 n n (omega arith)
    ∙ ap (λ (l : List ℕ). l ++ n ∷ []) (map-id (range_with_len 0 n)))

-- the pins of the first gates, and of one gate more
pins_more : (c : Netlist) (g : ℕ) → flat_map (pins_of_gate c) (range_with_len 0 (g + 1))
    ≡ flat_map (pins_of_gate c) (range_with_len 0 g) ++ pins_of_gate c g
pins_more c g =
    ap (flat_map (pins_of_gate c)) (range_more g)
    ∙ (flat_map-append (pins_of_gate c) (range_with_len 0 g) (g ∷ [])
    ∙ ap (λ (l : List Site). flat_map (pins_of_gate c) (range_with_len 0 g) ++ l) (append-nil (pins_of_gate c g)))

-- One more gate.
pub gate_more : (c : Netlist) (old before after : List Site) (g : ℕ)
    → before ≡ old ++ filter (is_site c) (flat_map (pins_of_gate c) (range_with_len 0 g))
    → after ≡ before ++ filter (is_site c) (pins_of_gate c g)
    → after ≡ old ++ filter (is_site c) (flat_map (pins_of_gate c) (range_with_len 0 (g + 1)))
gate_more c old before after g is added =
    let p : Site → Bool = is_site c in
    let so_far = flat_map (pins_of_gate c) (range_with_len 0 g) in
    added ∙ (ap (λ (l : List Site). l ++ filter p (pins_of_gate c g)) is
    ∙ (append_assoc old (filter p so_far) (filter p (pins_of_gate c g))
    ∙ ap (λ (l : List Site). old ++ l)
    (sym (filter-append p so_far (pins_of_gate c g)) ∙ ap (filter p) (sym (pins_more c g)))))

-- each stem is a site
pub stems_kept : (c : Netlist) (a n : ℕ) → filter (is_site c) (map (λ x. Stem (record { 0 = x })) (range_with_len a n))
    ≡ map (λ x. Stem (record { 0 = x })) (range_with_len a n)
stems_kept c a zero = refl
stems_kept c a (suc n) = ap (λ (l : List Site). Stem (record { 0 = a }) ∷ l) (stems_kept c (a + 1) n)

-- Stems, data pins and gate pins are all.
pub sites_are : (c : Netlist) (stems data_pins gate_pins : List Site) → stems ≡ stems_of c
    → data_pins ≡ stems ++ filter (is_site c) (data_pins_of c) → gate_pins ≡ data_pins
    ++ filter (is_site c) (gate_pins_of c)
    → gate_pins ≡ sites_of c
sites_are c stems data_pins gate_pins s d g =
    let p : Site → Bool = is_site c in
    g ∙ (ap (λ (l : List Site). l ++ filter p (gate_pins_of c))
    (d ∙ ap (λ (l : List Site). l ++ filter p (data_pins_of c)) (s ∙ sym (stems_kept c 0 (net_count c))))
    ∙ (append_assoc (filter p (stems_of c)) (filter p (data_pins_of c)) (filter p (gate_pins_of c))
    ∙ (ap (λ (l : List Site). filter p (stems_of c) ++ l) (sym (filter-append p (data_pins_of c) (gate_pins_of c)))
    ∙ sym (filter-append p (stems_of c) (data_pins_of c ++ gate_pins_of c)))))

gate_pins_count : (c : Netlist) (g : ℕ) → g ≤ length c.gates
    → length (flat_map (pins_of_gate c) (range_with_len 0 g)) ≡ sum_by (λ (a : Gate). length a.args) (take g c.gates)
gate_pins_count c zero h = refl
gate_pins_count c (suc g) h =
    let before = gate_pins_count c g (omega arith) in
    let more = sum_by_more (λ (a : Gate). length a.args) c.gates g no_gate (omega arith) in
    let pins : length (pins_of_gate c g) ≡ length (gate_at c g).args = length-map-range_with_len (λ i. GatePin g i) 0
    (length (gate_at c g).args) in
    let all = length-append (flat_map (pins_of_gate c) (range_with_len 0 g)) (pins_of_gate c g) in
    let is = ap (λ (l : List Site). length l) (pins_more c g) in
    let count : length (flat_map (pins_of_gate c) (range_with_len 0 (g + 1))) ≡ sum_by (λ (a : Gate). length a.args)
    (take (g + 1) c.gates) =
    is ∙ (all ∙ omega (arith, before, more, pins)) in
    subst (λ (n : ℕ). length (flat_map (pins_of_gate c) (range_with_len 0 n)) ≡ sum_by (λ (a : Gate). length a.args)
    (take n c.gates)) (add-one g) count

-- A circuit has as many lines as nets and pins.
lines_count : (c : Netlist) → length (circuit_lines c) ≡ net_count c + pin_count c
lines_count c =
    let stems : length (stems_of c) ≡ net_count c = length-map-range_with_len (λ x. Stem (record { 0 = x })) 0
    (net_count c) in
    let data_pins : length (data_pins_of c) ≡ length c.dffs = length-map-range_with_len (λ j. DffPin j) 0
    (length c.dffs) in
    let gates = gate_pins_count c (length c.gates) (omega arith) in
    let all : sum_by (λ (a : Gate). length a.args) (take (length c.gates) c.gates)
    ≡ sum_by (λ (a : Gate). length a.args) c.gates =
    ap (sum_by (λ (a : Gate). length a.args)) (take_all (length c.gates) c.gates (omega arith)) in
    omega (
      arith,
      length-append (stems_of c) (data_pins_of c ++ gate_pins_of c),
      length-append (data_pins_of c)
          (gate_pins_of c),
      stems,
      data_pins,
      gates,
      all,
    )

-- No more are sites.
pub sites_few : (c : Netlist) → IsCircuit c → length (sites_of c) ≤ 327679
sites_few c circuit = omega (
  arith,
  length-filter (is_site c) (circuit_lines c),
  count_by-le-length (is_site c) (circuit_lines c),
  lines_count
      c,
  circuit.few_nets,
  circuit.few_pins,
)
