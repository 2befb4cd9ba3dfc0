-- The values at the pins of a gate, read from the nets one by one.
use Rattle.std.proofs.Common.{◌≡◌, ◌<◌, ◌+◌, ◌∙◌, ◌&&◌, ℕ, List, [], ◌∷◌, Bool, false, Option, Some, None, eqb, length, get_or, drop, refl, ap, sym}
use Rattle.std.proofs.lemmas.List.{drop_more}
use Rattle.std.proofs.lemmas.Bool.{cond-false}
use Rattle.ht_tern.specs.declared.gate.Kind.{Kind}
use Rattle.ht_net.specs.declared.net.NetId.{NetId}
use Rattle.ht_net.specs.declared.fault.Site.{Site}
use Rattle.ht_net.specs.declared.fault.Site.TheVariants.{Stem, DffPin, GatePin}
use Rattle.ht_net.specs.declared.fault.Fault.{Fault}
use Rattle.ht_net.specs.Circuit.Netlist.{no_net}
use Rattle.ht_net.specs.Frames.Frame.{pin_values, values_at}
use Rattle.ht_net.specs.Frames.Faults.{forced, is_pin, rules_of}
use Rattle.ht_frame.specs.StuckPins.{is_at_gate, is_pin_of}

-- One more net is taken into the value that stands for the pins before it.
pub one_more : {V : Type 0} → (gate : List V → V) (env : ℕ → V) (items : List NetId) (i : ℕ) (value next read : V)
    → i < length items → read ≡ env (get_or items i no_net).0
    → ((rest : List V) → gate (next ∷ rest) ≡ gate (value ∷ read ∷ rest))
    → gate (next ∷ values_at env (drop (i + 1) items)) ≡ gate (value ∷ values_at env (drop i items))
one_more gate env items i value next read inside is stands =
    let rest = values_at env (drop (i + 1) items) in
    stands rest ∙ (ap (λ v. gate (value ∷ v ∷ rest)) is
    ∙ ap (λ (l : List NetId). gate (value ∷ values_at env l)) (sym (drop_more items i no_net inside)))

no_pin : (site : Site) (g i : ℕ) → is_pin_of site g ≡ false → is_pin site g i ≡ false
no_pin (Stem x) g i h = refl
no_pin (DffPin j) g i h = refl
no_pin (GatePin h k) g i e = ap (λ b. b && eqb i k) e

-- A pin of a gate shows the value of its net, where no pin of the gate is stuck.
pub plain_pin : {V : Type 0} → (stick : Bool → V → V) (fault : Option Fault) (g i : ℕ) (v : V)
    → is_at_gate fault g ≡ false → forced stick fault (λ site. is_pin site g i) v ≡ v
unfolding forced
plain_pin stick None g i v h = refl
plain_pin stick (Some f) g i v h = cond-false (is_pin f.site g i) (stick f.value v) v (no_pin f.site g i h)

-- where no pin of a gate is stuck, its pins show the values of their nets
pub plain_pins : {V : Type 0} → (blank : V) (gate : Kind → List V → V) (stick : Bool → V → V) (fault : Option Fault)
    (g : ℕ) (env : ℕ → V) (n : ℕ) (args : List NetId) → is_at_gate fault g ≡ false
    → pin_values (rules_of blank gate stick fault) g env n args ≡ values_at env args
plain_pins blank gate stick fault g env n [] h = refl
plain_pins blank gate stick fault g env n (a ∷ args) h =
    λ i. plain_pin stick fault g n (env a.0) h i ∷ plain_pins blank gate stick fault g env (n + 1) args h i
