-- A listed fault stands on a fault site: its net has the loads of L and of B.
use Rattle.std.proofs.Common.{◌≡◌, ◌<◌, ◌≤◌, ◌+◌, ◌*◌, ℕ, suc, zero, List, [], ◌∷◌, Bool, true, false, cond, length, get_or, refl, sym, ◌∙◌, ap, subst, arith}
use Rattle.std.specs.Prelude.{eqb, ◌&&◌}
use Rattle.std.specs.List.{sum_by}
use Rattle.std.proofs.lemmas.Bool.{eq-eqb, ne_eqb}
use Rattle.std.proofs.lemmas.List.Sums.{sum_by-cons}
use Rattle.ht_net.specs.declared.net.NetId.{NetId}
use Rattle.ht_net.specs.declared.fault.Site.{Site}
use Rattle.ht_net.specs.declared.fault.Site.TheVariants.{Stem, DffPin, GatePin}
use Rattle.ht_net.specs.Circuit.Netlist.{Netlist, Gate, no_net, no_gate, gate_at, arg_at, IsCircuit}
use Rattle.ht_net.specs.Circuit.Levels.{times, loads_of}
use Rattle.ht_net.specs.Frames.Faults.{is_pin}
use Rattle.ht_faults.specs.Sites.{IsFaultSite}
use Rattle.ht_slow.specs.Slow.{IsLine}
use Rattle.ht_slow.specs.ExpandedLine.{net, read_net}
use Rattle.ht_slow.specs.Expanded.{line_in, names_over, expand_line, expand_on, expanded, listed_fault, AreLines}
use Rattle.ht_slow.proofs.DepthLaws.{old_arg_is}
use Rattle.ht_slow.proofs.PlaceLaws.{first_new_gate, second_new_gate}
use Rattle.ht_slow.proofs.Wired.{IsWired}
use Rattle.ht_slow.proofs.WiredLaws.{circuit_is_wired, line_inside, expanded_is_wired}
use Rattle.ht_slow.proofs.OverLaws.{IsOver, over_itself, over_more, line_stays}
use Rattle.ht_slow.proofs.ListLaws.{AllLines, NewPin, new_pin_stays, own_is_new, pin_from, pin_next}

-- ---- loads

times_some : (x : ℕ) (args : List NetId) → 0 < length args → (get_or args 0 no_net).0 ≡ x → 1 ≤ times x args
times_some x [] h is = absurd (omega arith)
times_some x (a ∷ args) h is =
    let step = sum_by-cons (λ (n : NetId). cond (eqb n.0 x) 1 0) a args in
    let one = ap (λ (t : Bool). let n : ℕ = cond t 1 0 in n) (eq-eqb a.0 x is) in
    omega (arith, step, one)

sum_two : (f : Gate → ℕ) (gates : List Gate) (g : ℕ) → suc g < length gates
    → f (get_or gates g no_gate) + f (get_or gates (suc g) no_gate) ≤ sum_by f gates
sum_two f [] g h = absurd (omega arith)
sum_two f (a ∷ []) zero h = absurd (omega (arith, h))
sum_two f (a ∷ b ∷ gates) zero h =
    let one = sum_by-cons f a (b ∷ gates) in
    let two = sum_by-cons f b gates in
    omega (arith, one, two)
sum_two f (a ∷ gates) (suc g) h =
    let one = sum_by-cons f a gates in
    let rest = sum_two f gates g (omega arith) in
    omega (arith, one, rest)

-- a net that the first pins of two gates read has two loads
two_loads : (c : Netlist) (g x : ℕ) → suc g < length c.gates → 0 < length (gate_at c g).args
    → 0 < length (gate_at c (suc g)).args → arg_at c g 0 ≡ x → arg_at c (suc g) 0 ≡ x → 2 ≤ loads_of c x
two_loads c g x h k l one two =
    let a = times_some x (gate_at c g).args k one in
    let b = times_some x (gate_at c (suc g)).args l two in
    let both = sum_two (λ (gate : Gate). times x gate.args) c.gates g h in
    omega (arith, a, b, both)

-- ---- what L and B read first stays one net

not_a_line : (c e : Netlist) (site : Site) (g : ℕ) → IsLine c site → length c.gates ≤ g
    → is_pin (line_in c e site) g 0 ≡ false
not_a_line c e (Stem x) g line h = refl
not_a_line c e (DffPin j) g line h = refl
not_a_line c e (GatePin k i) g line h =
    let l = line.0 in ap (λ (t : Bool). t && eqb 0 i) (ne_eqb g k (omega (arith, l, h)))

-- the net that the first pin of a new gate reads, with one line more expanded
first_read : (c e : Netlist) (site : Site) (g : ℕ) → IsOver c e → IsWired e → IsLine c site → NewPin c e g
    → arg_at (expand_line c e site) g 0 ≡ (read_net e (line_in c e site) false (net (arg_at e g 0))).0
first_read c e site g over wired line pin =
    let at : Site = line_in c e site in
    let there = line_inside e at wired (line_stays c e over site line) in
    old_arg_is e at (names_over c e site) wired.depth wired.deep there g 0 pin.1.0 pin.1.1
    ∙ ap (λ (t : Bool). (read_net e at t (net (arg_at e g 0))).0) (not_a_line c e site g line pin.0)

one_net : (c e : Netlist) (sites : List Site) (g : ℕ) → IsOver c e → IsWired e → AllLines c sites → NewPin c e g
    → NewPin c e (suc g) → arg_at e g 0 ≡ arg_at e (suc g) 0
    → IsFaultSite (expand_on c e sites) (GatePin g 0) × IsFaultSite (expand_on c e sites) (GatePin (suc g) 0)
one_net c e [] g over wired lines one two same =
    let h = two.1.0 in let k = one.1.1 in let l = two.1.1 in
    let x : ℕ = arg_at e (suc g) 0 in
    let loads : 2 ≤ loads_of e x = two_loads e g x h k l same refl in
    ((one.1.0, k, subst (λ (n : ℕ). 2 ≤ loads_of e n) (sym same) loads), (h, l, loads))
one_net c e (site ∷ sites) g over wired lines one two same =
    let here = lines 0 (omega arith) in
    let at : Site = line_in c e site in
    let there = line_stays c e over site here in
    one_net c (expand_line c e site) sites g (over_more c e over wired site here)
    (expanded_is_wired e at (names_over c e site) wired there) (λ k h. lines (suc k) (omega arith))
    (new_pin_stays c e site g over wired here one) (new_pin_stays c e site (suc g) over wired here two)
    (first_read c e site g over wired here one
    ∙ (ap (λ (n : ℕ). (read_net e at false (net n)).0) same
    ∙ sym (first_read c e site (suc g) over wired here two)))

-- L and B of the line that is expanded read what it carries
own_net : (c e : Netlist) (site : Site)
    → arg_at (expand_line c e site) (length e.gates) 0 ≡ arg_at (expand_line c e site) (suc (length e.gates)) 0
own_net c e site =
    ap (λ (a : Gate). (get_or a.args 0 no_net).0) (first_new_gate e (line_in c e site) 0 e.gates)
    ∙ sym (ap (λ (a : Gate). (get_or a.args 0 no_net).0) (second_new_gate e (line_in c e site) 0 e.gates))

pin_zero : (e : Netlist) → pin_from e 0 false ≡ length e.gates
pin_zero e = let z : length e.gates + 2 * 0 ≡ length e.gates = omega arith in z

listed_site : (c e : Netlist) (sites : List Site) (k : ℕ) → IsOver c e → IsWired e → AllLines c sites → k < length sites
    → IsFaultSite (expand_on c e sites) (GatePin (pin_from e k false) 0)
    × IsFaultSite (expand_on c e sites) (GatePin (pin_from e k true) 0)
listed_site c e [] k over wired lines h = absurd (omega arith)
listed_site c e (site ∷ sites) zero over wired lines h =
    let here = lines 0 (omega arith) in
    let at : Site = line_in c e site in
    let there = line_stays c e over site here in
    let big : Netlist = expand_line c e site in
    let z = pin_zero e in
    let one : NewPin c big (length e.gates) = subst (NewPin c big) z (own_is_new c e site false over) in
    let two : NewPin c big (suc (length e.gates)) =
    subst (λ (n : ℕ). NewPin c big (suc n)) z (own_is_new c e site true over) in
    let both = one_net c big sites (length e.gates) (over_more c e over wired site here)
    (expanded_is_wired e at (names_over c e site) wired there) (λ k l. lines (suc k) (omega arith)) one two
    (own_net c e site) in (
      subst (λ (n : ℕ). IsFaultSite (expand_on c big sites) (GatePin n 0)) (sym z) both.0,
      subst (λ (n : ℕ). IsFaultSite (expand_on c big sites) (GatePin (suc n) 0)) (sym z) both.1,
    )
listed_site c e (site ∷ sites) (suc k) over wired lines h =
    let here = lines 0 (omega arith) in
    let at : Site = line_in c e site in
    let there = line_stays c e over site here in
    let big : Netlist = expand_line c e site in
    let rest = listed_site c big sites k (over_more c e over wired site here)
    (expanded_is_wired e at (names_over c e site) wired there) (λ i l. lines (suc i) (omega arith)) (omega arith) in (
      subst (λ (n : ℕ). IsFaultSite (expand_on c big sites) (GatePin n 0)) (sym (pin_next c e site k false)) rest.0,
      subst (λ (n : ℕ). IsFaultSite (expand_on c big sites) (GatePin n 0)) (sym (pin_next c e site k true)) rest.1,
    )

pub listed_is_site : (c : Netlist) (sites : List Site) (k : ℕ) (value : Bool) → IsCircuit c → AreLines c sites
    → k < length sites → IsFaultSite (expanded c sites) (listed_fault c k value).site
listed_is_site c sites k true circuit lines h =
    (listed_site c c sites k (over_itself c) (circuit_is_wired c circuit) (λ i l. lines.lines i (Stem no_net) l) h).1
listed_is_site c sites k false circuit lines h =
    (listed_site c c sites k (over_itself c) (circuit_is_wired c circuit) (λ i l. lines.lines i (Stem no_net) l) h).0
