-- The names of a circuit with lines expanded differ.
use Rattle.std.proofs.Common.{◌≡◌, ◌≢◌, ◌<◌, ◌≤◌, ◌+◌, ℕ, suc, zero, List, [], ◌∷◌, ◌++◌, length, get_or, refl, sym, ◌∙◌, ap, subst, arith, inl, inr}
use Rattle.std.specs.Prelude.{◌*◌, slice_set}
use Rattle.std.specs.List.{All}
use Rattle.std.proofs.lemmas.Bool.Decides.{nat_tests}
use Rattle.ht_net.specs.declared.fault.Site.{Site}
use Rattle.ht_net.specs.declared.fault.Site.TheVariants.{Stem, DffPin, GatePin}
use Rattle.ht_net.specs.Build.Named.{Name}
use Rattle.ht_net.specs.Circuit.Lists.{AllDiffer}
use Rattle.ht_net.specs.Circuit.Netlist.{Netlist, no_net, net_count, pin_count, first_gate_net, IsCircuit, max_nets, max_pins, max_dffs}
use Rattle.ht_net.proofs.FrameLaws.{le_or_lt}
use Rattle.ht_slow.specs.Slow.{IsLine}
use Rattle.ht_slow.specs.ExpandedLine.{moved, net}
use Rattle.ht_slow.specs.LineNames.{line_stump, shown_name, before_name, both_name, renamed, with_three, HasNoMark}
use Rattle.ht_slow.specs.Expanded.{line_in, names_over, expand_line, expand_on, expanded, AreLines}
use Rattle.ht_slow.proofs.OverLaws.{IsOver, over_itself, over_more, line_stays, line_moves, line_here, up, up_once, stem_number}
use Rattle.ht_slow.proofs.ListLaws.{AllLines}
use Rattle.ht_slow.proofs.CircuitLaws.{IsShaped, circuit_is_shaped, more_is_shaped, length_renamed, all_is_circuit}
use Rattle.ht_slow.proofs.NameLaws.{IsPlain, plain_name, line_name, line_names_once, line_name_is_new, append_nothing}

-- ---- different names, item by item

abbrev NotIn : Name → List Name → Type 0
NotIn x [] = Unit {0}
NotIn x (y ∷ ys) = (x ≢ y) × NotIn x ys

abbrev Distinct : List Name → Type 0
Distinct [] = Unit {0}
Distinct (x ∷ xs) = NotIn x xs × Distinct xs

not_in_at : (x : Name) (xs : List Name) → NotIn x xs → (j : ℕ) (d : Name) → j < length xs → x ≢ get_or xs j d
not_in_at x [] out j d h = absurd (omega arith)
not_in_at x (y ∷ ys) out zero d h = out.0
not_in_at x (y ∷ ys) out (suc j) d h = not_in_at x ys out.1 j d (omega arith)

not_in_by : (x : Name) (xs : List Name) → ((j : ℕ) → j < length xs → x ≢ get_or xs j []) → NotIn x xs
not_in_by x [] out = tt
not_in_by x (y ∷ ys) out = (out 0 (omega arith), not_in_by x ys (λ j h. out (suc j) (omega arith)))

pub distinct_differ : (xs : List Name) → Distinct xs → (i j : ℕ) (d : Name) → i < j → j < length xs
    → get_or xs i d ≢ get_or xs j d
distinct_differ [] p i j d less h = absurd (omega (arith, h))
distinct_differ (x ∷ xs) p i zero d less h = absurd (omega (arith, less))
distinct_differ (x ∷ xs) p zero (suc j) d less h = not_in_at x xs p.0 j d (omega arith)
distinct_differ (x ∷ xs) p (suc i) (suc j) d less h = distinct_differ xs p.1 i j d (omega arith) (omega arith)

differ_distinct : (xs : List Name) → AllDiffer xs → Distinct xs
differ_distinct [] p = tt
differ_distinct (x ∷ xs) p = (
  not_in_by x xs (λ j h. p 0 (suc j) [] (omega arith) (omega arith)),
  differ_distinct xs (λ i j d less h. p (suc i) (suc j) d (omega arith) (omega arith)),
)

-- ---- three names more

not_in_two : (x l b : Name) (xs : List Name) → NotIn x xs → x ≢ l → x ≢ b → NotIn x (xs ++ l ∷ b ∷ [])
not_in_two x l b [] out one two = (one, (two, tt))
not_in_two x l b (y ∷ ys) out one two = (out.0, not_in_two x l b ys out.1 one two)

not_in_three : (x p l b : Name) (first : ℕ) (xs : List Name) → NotIn x xs → x ≢ p → x ≢ l → x ≢ b
    → NotIn x (with_three first xs p l b)
not_in_three x p l b zero xs out one two three = (one, not_in_two x l b xs out two three)
not_in_three x p l b (suc first) [] out one two three = (one, (two, (three, tt)))
not_in_three x p l b (suc first) (y ∷ ys) out one two three =
    (out.0, not_in_three x p l b first ys out.1 one two three)

differ_two : (l b : Name) (xs : List Name) → Distinct xs → NotIn l xs → NotIn b xs → l ≢ b
    → Distinct (xs ++ l ∷ b ∷ [])
differ_two l b [] p one two ne = ((ne, tt), (tt, tt))
differ_two l b (x ∷ xs) p one two ne =
    (not_in_two x l b xs p.0 (λ e. one.0 (sym e)) (λ e. two.0 (sym e)), differ_two l b xs p.1 one.1 two.1 ne)

differ_three : (p l b : Name) (first : ℕ) (xs : List Name) → Distinct xs → NotIn p xs → NotIn l xs → NotIn b xs
    → p ≢ l → p ≢ b → l ≢ b → Distinct (with_three first xs p l b)
differ_three p l b zero xs d one two three pl pb lb =
    (not_in_two p l b xs one pl pb, differ_two l b xs d two three lb)
differ_three p l b (suc first) [] d one two three pl pb lb = ((pl, (pb, tt)), ((lb, tt), (tt, tt)))
differ_three p l b (suc first) (x ∷ xs) d one two three pl pb lb = (
  not_in_three x p l b first xs d.0 (λ e. one.0 (sym e)) (λ e. two.0 (sym e)) (λ e. three.0 (sym e)),
  differ_three p l b first xs d.1 one.1 two.1 three.1 pl pb lb,
)

-- a name stays where its driver moves to
three_at : (p l b : Name) (first : ℕ) (xs : List Name) (n : ℕ) → n < length xs → n < first
    → get_or (with_three first xs p l b) n [] ≡ get_or xs n []
three_at p l b zero xs n h less = absurd (omega (arith, less))
three_at p l b (suc first) [] n h less = absurd (omega arith)
three_at p l b (suc first) (x ∷ xs) zero h less = refl
three_at p l b (suc first) (x ∷ xs) (suc n) h less = three_at p l b first xs n (omega arith) (omega arith)

two_at : (l b : Name) (xs : List Name) (n : ℕ) → n < length xs → get_or (xs ++ l ∷ b ∷ []) n [] ≡ get_or xs n []
two_at l b [] n h = absurd (omega arith)
two_at l b (x ∷ xs) zero h = refl
two_at l b (x ∷ xs) (suc n) h = two_at l b xs n (omega arith)

three_past : (p l b : Name) (first : ℕ) (xs : List Name) (n : ℕ) → n < length xs → first ≤ n
    → get_or (with_three first xs p l b) (suc n) [] ≡ get_or xs n []
three_past p l b zero xs n h less = two_at l b xs n h
three_past p l b (suc first) [] n h less = absurd (omega arith)
three_past p l b (suc first) (x ∷ xs) zero h less = absurd (omega (arith, less))
three_past p l b (suc first) (x ∷ xs) (suc n) h less = three_past p l b first xs n (omega arith) (omega arith)

-- ---- one name in place of another

not_in_set : (x v : Name) (xs : List Name) (a : ℕ) → NotIn x xs → x ≢ v → NotIn x (slice_set xs a v)
not_in_set x v [] a out ne = tt
not_in_set x v (y ∷ ys) zero out ne = (ne, out.1)
not_in_set x v (y ∷ ys) (suc a) out ne = (out.0, not_in_set x v ys a out.1 ne)

differ_set : (v : Name) (xs : List Name) (a : ℕ) → Distinct xs → NotIn v xs → Distinct (slice_set xs a v)
differ_set v [] a p out = tt
differ_set v (x ∷ xs) zero p out = (out.1, p.1)
differ_set v (x ∷ xs) (suc a) p out =
    (not_in_set x v xs a p.0 (λ e. out.0 (sym e)), differ_set v xs a p.1 out.1)

-- the name that was there is there no more
set_removes : (l v : Name) (xs : List Name) (a : ℕ) → Distinct xs → a < length xs → get_or xs a [] ≡ l → l ≢ v
    → NotIn l (slice_set xs a v)
set_removes l v [] a p h is ne = tt
set_removes l v (x ∷ xs) zero p h is ne = (ne, subst (λ (n : Name). NotIn n xs) is p.0)
set_removes l v (x ∷ xs) (suc a) p h is ne = (
  λ e. not_in_at x xs p.0 a [] (omega arith) (sym e ∙ sym is),
  set_removes l v xs a p.1 (omega arith) is ne,
)

set_elsewhere : (v : Name) (xs : List Name) (a n : ℕ) → a ≢ n → get_or (slice_set xs a v) n [] ≡ get_or xs n []
set_elsewhere v [] a n ne = refl
set_elsewhere v (x ∷ xs) zero zero ne = absurd (ne refl)
set_elsewhere v (x ∷ xs) zero (suc n) ne = refl
set_elsewhere v (x ∷ xs) (suc a) zero ne = refl
set_elsewhere v (x ∷ xs) (suc a) (suc n) ne = set_elsewhere v xs a n (λ e. ne (ap suc e))

not_in_renamed : (x v : Name) (names : List Name) (at : Site) → NotIn x names → x ≢ v → NotIn x (renamed names at v)
not_in_renamed x v names (Stem y) out ne = not_in_set x v names y.0 out ne
not_in_renamed x v names (DffPin j) out ne = out
not_in_renamed x v names (GatePin g i) out ne = out

-- a name of e is still that of its driver
moved_name : (e : Netlist) (names : List Name) (p l b : Name) (n : ℕ) → n < length names
    → get_or (with_three (first_gate_net e) names p l b) (moved e n) [] ≡ get_or names n []
moved_name e names p l b n h = elim (le_or_lt (first_gate_net e) n) [
  | inl k ↦
      let m : moved e n ≡ suc n = grind (arith, nat_tests) in
      ap (λ (i : ℕ). get_or (with_three (first_gate_net e) names p l b) i []) m
      ∙ three_past p l b (first_gate_net e) names n h k
  | inr k ↦
      let m : moved e n ≡ n = grind (arith, nat_tests) in
      ap (λ (i : ℕ). get_or (with_three (first_gate_net e) names p l b) i []) m
      ∙ three_at p l b (first_gate_net e) names n h k
]

-- ---- the names of an expansion

module _ (c : Netlist) (circuit : IsCircuit c) (plain : (x : ℕ) → x < net_count c → IsPlain (get_or c.names x [])) where
  abbrev site_at : List Site → ℕ → Site
  site_at sites k = get_or sites k (Stem no_net)

  -- The names of e differ, and those of lines that are left are still to come.
  record AreNamed (e : Netlist) (sites : List Site) : Type 0 where
    distinct : Distinct e.names
    fresh : (k i : ℕ) → k < length sites → i < 3 → NotIn (line_name c (site_at sites k) i) e.names
    kept : (k x : ℕ) → k < length sites → site_at sites k ≡ Stem (net x)
        → get_or e.names (up c e x) [] ≡ get_or c.names x []

  stump_is : (site : Site) → line_stump c site ≡ line_name c site 0
  stump_is site = sym (append_nothing (line_stump c site))

  own_differ : (site : Site) (i j : ℕ) → IsLine c site → i < 3 → j < 3 → i ≢ j → line_name c site i ≢ line_name c site j
  own_differ site i j line h k ne is = ne ((line_names_once c circuit plain site site i j h k line line is).1)

  other_differ : (s t : Site) (i j : ℕ) → IsLine c s → IsLine c t → i < 3 → j < 3 → s ≢ t
      → line_name c s i ≢ line_name c t j
  other_differ s t i j l m h k ne is = ne ((line_names_once c circuit plain s t i j h k l m is).0)

  -- the names of P and B are not that of the driver
  not_stump : (site : Site) (i : ℕ) → IsLine c site → i < 3 → i ≢ 0 → line_name c site i ≢ line_stump c site
  not_stump site i line h ne is = own_differ site i 0 line h (omega arith) ne (is ∙ stump_is site)

  stump_fresh : (e : Netlist) (site : Site) (sites : List Site) → AreNamed e (site ∷ sites)
      → NotIn (line_stump c site) e.names
  stump_fresh e site sites named =
      subst (λ (n : Name). NotIn n e.names) (sym (stump_is site)) (named.fresh 0 0 (omega arith) (omega arith))

  p_not_b : (site : Site) → IsLine c site → line_name c site 1 ≢ line_name c site 2
  p_not_b site line = own_differ site 1 2 line (omega arith) (omega arith) (λ is. absurd (omega (arith, is)))

  differ_next : (e : Netlist) (site : Site) (sites : List Site) → IsOver c e → IsShaped e → IsLine c site
      → AreNamed e (site ∷ sites) → Distinct (names_over c e site)
  differ_next e (Stem x) sites over shaped line named =
      let site : Site = Stem x in
      let a : ℕ = up c e x.0 in
      let v : Name = line_stump c site in
      let l : Name = get_or c.names x.0 [] in
      let p : Name = line_name c site 1 in
      let b : Name = line_name c site 2 in
      let long = shaped.named in
      let inside : a < net_count e = line_stays c e over site line in
      let one : p ≢ v = not_stump site 1 line (omega arith) (λ is. absurd (omega (arith, is))) in
      let two : b ≢ v = not_stump site 2 line (omega arith) (λ is. absurd (omega (arith, is))) in
      let mine : (i : ℕ) → l ≢ line_name c site i = λ i. line_name_is_new c circuit plain site i x.0 line in
      let lv : l ≢ v = λ is. mine 0 (is ∙ stump_is site) in
      differ_three p l b (first_gate_net e) (slice_set e.names a v)
      (differ_set v e.names a named.distinct (stump_fresh e site sites named))
      (not_in_set p v e.names a (named.fresh 0 1 (omega arith) (omega arith)) one)
      (set_removes l v e.names a named.distinct (omega (arith, inside, long)) (named.kept 0 x.0 (omega arith) refl) lv)
      (not_in_set b v e.names a (named.fresh 0 2 (omega arith) (omega arith)) two)
      (λ is. mine 1 (sym is)) (p_not_b site line) (mine 2)
  differ_next e (DffPin j) sites over shaped line named =
      let site : Site = DffPin j in
      differ_three (line_name c site 1) (line_stump c site) (line_name c site 2) (first_gate_net e) e.names
      named.distinct
      (named.fresh 0 1 (omega arith) (omega arith)) (stump_fresh e site sites named)
      (named.fresh 0 2 (omega arith) (omega arith))
      (not_stump site 1 line (omega arith) (λ is. absurd (omega (arith, is)))) (p_not_b site line)
      (λ is. not_stump site 2 line (omega arith) (λ no. absurd (omega (arith, no))) (sym is))
  differ_next e (GatePin g i) sites over shaped line named =
      let site : Site = GatePin g i in
      differ_three (line_name c site 1) (line_stump c site) (line_name c site 2) (first_gate_net e) e.names
      named.distinct
      (named.fresh 0 1 (omega arith) (omega arith)) (stump_fresh e site sites named)
      (named.fresh 0 2 (omega arith) (omega arith))
      (not_stump site 1 line (omega arith) (λ is. absurd (omega (arith, is)))) (p_not_b site line)
      (λ is. not_stump site 2 line (omega arith) (λ no. absurd (omega (arith, no))) (sym is))

  -- L has no name of another line
  not_shown : (site t : Site) (i : ℕ) → IsLine c site → IsLine c t → i < 3 → t ≢ site
      → line_name c t i ≢ shown_name c site
  not_shown (Stem x) t i line there h ne is = line_name_is_new c circuit plain t i x.0 line (sym is)
  not_shown (DffPin j) t i line there h ne is =
      other_differ t (DffPin j) i 0 there line h (omega arith) ne (is ∙ stump_is (DffPin j))
  not_shown (GatePin g k) t i line there h ne is =
      other_differ t (GatePin g k) i 0 there line h (omega arith) ne (is ∙ stump_is (GatePin g k))

  fresh_next : (e : Netlist) (site t : Site) (i : ℕ) → IsLine c site → IsLine c t → i < 3 → t ≢ site
      → NotIn (line_name c t i) e.names → NotIn (line_name c t i) (names_over c e site)
  fresh_next e site t i line there h ne out =
      let z : Name = line_name c t i in
      not_in_three z (before_name c site) (shown_name c site) (both_name c site) (first_gate_net e)
      (renamed e.names (line_in c e site) (line_stump c site))
      (not_in_renamed z (line_stump c site) e.names (line_in c e site) out
      (λ is. other_differ t site i 0 there line h (omega arith) ne (is ∙ stump_is site)))
      (other_differ t site i 1 there line h (omega arith) ne)
      (not_shown site t i line there h ne)
      (other_differ t site i 2 there line h (omega arith) ne)

  -- a stem that isn't expanded yet keeps its name
  name_stays : (e : Netlist) (site : Site) (x : ℕ) → site ≢ Stem (net x)
      → get_or (renamed e.names (line_in c e site) (line_stump c site)) (up c e x) [] ≡ get_or e.names (up c e x) []
  name_stays e (Stem y) x ne = set_elsewhere (line_stump c (Stem y)) e.names (up c e y.0) (up c e x)
      (λ is. ne (ap (λ (n : ℕ). Stem (net n)) (up_once c e y.0 x is)))
  name_stays e (DffPin j) x ne = refl
  name_stays e (GatePin g i) x ne = refl

  kept_next : (e : Netlist) (site : Site) (x : ℕ) → IsOver c e → IsShaped e → x < net_count c → site ≢ Stem (net x)
      → get_or e.names (up c e x) [] ≡ get_or c.names x []
      → get_or (names_over c e site) (up c (expand_line c e site) x) [] ≡ get_or c.names x []
  kept_next e site x over shaped h ne kept =
      let old : List Name = renamed e.names (line_in c e site) (line_stump c site) in
      let n : ℕ = up c e x in
      let long = shaped.named in
      let same = length_renamed e.names (line_in c e site) (line_stump c site) in
      let inside : n < net_count e = line_stays c e over (Stem (net x)) h in
      let m : moved e n ≡ up c (expand_line c e site) x = ap stem_number (line_moves c e over site (Stem (net x))) in
      ap (λ (k : ℕ). get_or (names_over c e site) k []) (sym m)
      ∙ (moved_name e old (before_name c site) (shown_name c site) (both_name c site) n
      (omega (arith, inside, long, same))
      ∙ (name_stays e site x ne ∙ kept))

  named_next : (e : Netlist) (site : Site) (sites : List Site) → IsOver c e → IsShaped e
      → AllLines c (site ∷ sites) → AllDiffer (site ∷ sites) → AreNamed e (site ∷ sites)
      → AreNamed (expand_line c e site) sites
  named_next e site sites over shaped lines differ named =
      let line = lines 0 (omega arith) in
      let apart : (k : ℕ) → k < length sites → site ≢ site_at sites k =
      λ k h. differ 0 (suc k) (Stem no_net) (omega arith) (omega arith) in
      record {
        distinct = differ_next e site sites over shaped line named;
        fresh = λ k i h less. fresh_next e site (site_at sites k) i line (lines (suc k) (omega arith)) less
            (λ is. apart k h (sym is)) (named.fresh (suc k) i (omega arith) less);
        kept = λ k x h is. kept_next e site x over shaped (subst (IsLine c) is (lines (suc k) (omega arith)))
            (λ same. apart k h (same ∙ sym is)) (named.kept (suc k) x (omega arith) is);
      }

  names_distinct : (e : Netlist) (sites : List Site) → IsOver c e → IsShaped e → AllLines c sites → AllDiffer sites
      → AreNamed e sites → Distinct (expand_on c e sites).names
  names_distinct e [] over shaped lines differ named = named.distinct
  names_distinct e (site ∷ sites) over shaped lines differ named =
      let here = lines 0 (omega arith) in
      names_distinct (expand_line c e site) sites (over_more c e over shaped.wired site here)
      (more_is_shaped c e over shaped site here) (λ k h. lines (suc k) (omega arith))
      (λ i j d less h. differ (suc i) (suc j) d (omega arith) (omega arith))
      (named_next e site sites over shaped lines differ named)

  named_first : (sites : List Site) → AllLines c sites → AreNamed c sites
  named_first sites lines = record {
    distinct = differ_distinct c.names circuit.names_differ;
    fresh = λ k i h less. not_in_by (line_name c (site_at sites k) i) c.names
        (λ j l is. let n = circuit.named in
        line_name_is_new c circuit plain (site_at sites k) i j (omega (arith, l, n)) (sym is));
    kept = λ k x h is. ap (λ (n : ℕ). get_or c.names n []) (ap stem_number (line_here c (Stem (net x))));
  }

  pub expanded_names_differ : (sites : List Site) → AreLines c sites → AllDiffer (expanded c sites).names
  expanded_names_differ sites lines =
      let all : AllLines c sites = λ k h. lines.lines k (Stem no_net) h in
      distinct_differ (expanded c sites).names (names_distinct c sites (over_itself c) (circuit_is_shaped c circuit) all
      lines.differ (named_first sites all))

pub well_formed : (c : Netlist) (sites : List Site) → IsCircuit c → All HasNoMark c.names → AreLines c sites
    → net_count c + 3 * length sites ≤ max_nets → pin_count c + 5 * length sites ≤ max_pins
    → length c.dffs + length sites ≤ max_dffs → IsCircuit (expanded c sites)
well_formed c sites circuit marks lines nets pins dffs =
    let n = circuit.named in
    let plain : (x : ℕ) → x < net_count c → IsPlain (get_or c.names x []) =
    λ x h. plain_name (get_or c.names x []) (marks x [] (omega (arith, h, n))) in
    all_is_circuit c sites circuit lines nets pins dffs (expanded_names_differ c circuit plain sites lines)
