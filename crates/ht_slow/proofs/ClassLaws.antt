-- A listed fault is a fault site, and is its class by itself.
use Rattle.std.proofs.Common.{◌≡◌, ◌<◌, ◌+◌, ◌*◌, ℕ, suc, zero, List, [], ◌∷◌, Bool, true, false, cond, length, Some, None, refl, sym, ◌∙◌, ap, subst, arith}
use Rattle.ht_tern.specs.declared.gate.Kind.{Kind}
use Rattle.ht_net.specs.declared.fault.Site.{Site}
use Rattle.ht_net.specs.declared.fault.Site.TheVariants.{Stem, DffPin, GatePin}
use Rattle.ht_net.specs.declared.fault.Fault.{Fault}
use Rattle.ht_net.specs.Circuit.Netlist.{Netlist, Gate, gate_at, arg_at}
use Rattle.ht_faults.specs.Sites.{is_fanout}
use Rattle.ht_faults.specs.Table.{equivalent_output}
use Rattle.ht_faults.specs.Classes.{EquivalentPair, SameClass, itself, paired, turned, joined}
use Rattle.ht_slow.specs.Expanded.{line_in, expand_line, expand_on, expanded, listed_fault}
use Rattle.ht_slow.proofs.PlaceLaws.{old_gate, first_new_gate, second_new_gate, args_length}
use Rattle.ht_slow.proofs.OverLaws.{gates_more}
use Rattle.ht_slow.proofs.ListLaws.{pin_from, pin_next, listed_is}

-- the gate of a pin, else 0
abbrev gate_number : Site → ℕ
gate_number (Stem x) = 0
gate_number (DffPin j) = 0
gate_number (GatePin g i) = g

abbrev pin_number : Site → ℕ
pin_number (Stem x) = 0
pin_number (DffPin j) = 0
pin_number (GatePin g i) = i

-- a gate of two pins whose kind the value doesn't control
abbrev pub Uncontrolled : Gate → Bool → Type 0
Uncontrolled gate value = equivalent_output gate.kind (length gate.args) value ≡ None

pin_line : (c : Netlist) (g i g' i' : ℕ) (b : Bool)
    → GatePin g i ≡ cond b (GatePin g' i') (Stem (record { 0 = arg_at c g' i' })) → g ≡ g'
pin_line c g i g' i' true is = ap gate_number is
pin_line c g i g' i' false is = absurd cc

-- no pair of the table has the fault
no_input : (c : Netlist) (g i : ℕ) (value : Bool) → Uncontrolled (gate_at c g) value → (f h : Fault)
    → EquivalentPair c f h → f ≡ record { site = GatePin g i; value = value } → ⊥
no_input c g i value free f h pair is =
    let site : f.site ≡ GatePin g i = ap (λ (a : Fault). a.site) is in
    let v : f.value ≡ value = ap (λ (a : Fault). a.value) is in
    let same : g ≡ pair.gate = pin_line c g i pair.gate pair.pin (is_fanout c (arg_at c pair.gate pair.pin))
    (sym site ∙ pair.at_input) in
    let values = pair.values in
    let here : equivalent_output (gate_at c g).kind (length (gate_at c g).args) value ≡ Some h.value =
    ap (λ (n : ℕ). equivalent_output (gate_at c n).kind (length (gate_at c n).args) value) same
    ∙ (ap (λ (b : Bool). equivalent_output (gate_at c pair.gate).kind (length (gate_at c pair.gate).args) b) (sym v)
    ∙ values) in
    let none : None ≡ Some h.value = sym free ∙ here in
    absurd cc

no_output : (c : Netlist) (g i : ℕ) (value : Bool) (f h : Fault) → EquivalentPair c f h
    → h ≡ record { site = GatePin g i; value = value } → ⊥
no_output c g i value f h pair is =
    let site : h.site ≡ GatePin g i = ap (λ (a : Fault). a.site) is in
    let at = sym site ∙ pair.at_output in
    absurd cc

-- what is in a class with it is itself
alone : (c : Netlist) (g i : ℕ) (value : Bool) → Uncontrolled (gate_at c g) value → (f h : Fault) → SameClass c f h
    → ((f ≡ record { site = GatePin g i; value = value } → h ≡ record { site = GatePin g i; value = value })
    × (h ≡ record { site = GatePin g i; value = value } → f ≡ record { site = GatePin g i; value = value }))
alone c g i value free _ _ (itself f) = (λ is. is, λ is. is)
alone c g i value free _ _ (paired f h pair) =
    (λ is. absurd (no_input c g i value free f h pair is), λ is. absurd (no_output c g i value f h pair is))
alone c g i value free _ _ (turned f h same) = let p = alone c g i value free f h same in (p.1, p.0)
alone c g i value free _ _ (joined f h k one two) =
    let p = alone c g i value free f h one in
    let q = alone c g i value free h k two in
    (λ is. q.0 (p.0 is), λ is. p.1 (q.1 is))

pub class_of_one : (c : Netlist) (g i : ℕ) (value : Bool) → Uncontrolled (gate_at c g) value → (f : Fault)
    → SameClass c (record { site = GatePin g i; value = value }) f
    → f ≡ record { site = GatePin g i; value = value }
class_of_one c g i value free f same =
    (alone c g i value free (record { site = GatePin g i; value = value }) f same).0 refl

-- ---- the gates of listed faults

-- a gate keeps its kind and its count of pins
pub kept_gate : (c e : Netlist) (sites : List Site) (g : ℕ) → g < length e.gates
    → ((gate_at (expand_on c e sites) g).kind ≡ (gate_at e g).kind)
    × (length (gate_at (expand_on c e sites) g).args ≡ length (gate_at e g).args)
kept_gate c e [] g h = (refl, refl)
kept_gate c e (site ∷ sites) g h =
    let n = gates_more c e site in
    let at : Site = line_in c e site in
    let rest = kept_gate c (expand_line c e site) sites g (omega (arith, n, h)) in
    let is = old_gate e at 0 e.gates g h in (
      rest.0 ∙ ap (λ (a : Gate). a.kind) is,
      rest.1 ∙ (ap (λ (a : Gate). length a.args) is ∙ args_length e at (0 + g) 0 (gate_at e g).args),
    )

free_alike : (a b : Gate) (value : Bool) → a.kind ≡ b.kind → length a.args ≡ length b.args → Uncontrolled b value
    → Uncontrolled a value
free_alike a b value kind count free =
    ap (λ (k : Kind). equivalent_output k (length a.args) value) kind
    ∙ (ap (λ (n : ℕ). equivalent_output b.kind n value) count ∙ free)

-- OR isn't controlled by 0, and AND isn't by 1
own_free : (c e : Netlist) (site : Site) (value : Bool)
    → Uncontrolled (gate_at (expand_line c e site) (pin_from e 0 value)) value
unfolding equivalent_output
own_free c e site true =
    let z : suc (length e.gates) ≡ suc (length e.gates + 2 * 0) = omega arith in
    subst (λ (g : ℕ). Uncontrolled (gate_at (expand_line c e site) g) true) z
    (subst (λ (a : Gate). Uncontrolled a true) (sym (second_new_gate e (line_in c e site) 0 e.gates)) refl)
own_free c e site false =
    let z : length e.gates ≡ length e.gates + 2 * 0 = omega arith in
    subst (λ (g : ℕ). Uncontrolled (gate_at (expand_line c e site) g) false) z
    (subst (λ (a : Gate). Uncontrolled a false) (sym (first_new_gate e (line_in c e site) 0 e.gates)) refl)

pin_there : (c e : Netlist) (site : Site) (value : Bool) → pin_from e 0 value < length (expand_line c e site).gates
pin_there c e site true = let n = gates_more c e site in omega (arith, n)
pin_there c e site false = let n = gates_more c e site in omega (arith, n)

listed_free : (c e : Netlist) (sites : List Site) (k : ℕ) (value : Bool) → k < length sites
    → Uncontrolled (gate_at (expand_on c e sites) (pin_from e k value)) value
listed_free c e [] k value h = absurd (omega arith)
listed_free c e (site ∷ sites) zero value h =
    let big : Netlist = expand_line c e site in
    let kept = kept_gate c big sites (pin_from e 0 value) (pin_there c e site value) in
    free_alike (gate_at (expand_on c big sites) (pin_from e 0 value)) (gate_at big (pin_from e 0 value)) value kept.0
    kept.1 (own_free c e site value)
listed_free c e (site ∷ sites) (suc k) value h =
    let big : Netlist = expand_line c e site in
    subst (λ (g : ℕ). Uncontrolled (gate_at (expand_on c big sites) g) value) (sym (pin_next c e site k value))
    (listed_free c big sites k value (omega arith))

pub listed_alone : (c : Netlist) (sites : List Site) (k : ℕ) (value : Bool) (f : Fault) → k < length sites
    → SameClass (expanded c sites) (listed_fault c k value) f → f ≡ listed_fault c k value
listed_alone c sites k value f h same =
    class_of_one (expanded c sites) (pin_from c k value) 0 value (listed_free c c sites k value h) f
    (subst (λ (g : Fault). SameClass (expanded c sites) g f) (listed_is c k value) same)
    ∙ sym (listed_is c k value)
