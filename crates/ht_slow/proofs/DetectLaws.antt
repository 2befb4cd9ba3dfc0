-- Listed faults are detected exactly where transition faults are.
use Rattle.std.proofs.Common.{◌≡◌, ◌<◌, ◌+◌, ◌++◌, ◌∷◌, ℕ, zero, suc, List, [], Bool, false, length, get_or, map, replicate, Option, Some, None, refl, sym, ◌∙◌, ap, subst, arith}
use Rattle.std.specs.Prelude.{◌↔◌}
use Rattle.ht_tern.specs.declared.tern.Tern.{Tern}
use Rattle.ht_tern.specs.declared.tern.Tern.TheVariants.{Unk}
use Rattle.ht_tern.specs.Gate.{gate_value, bool_gate_value, tern_of}
use Rattle.ht_tern.specs.Opposite.{Opposite}
use Rattle.ht_net.specs.declared.fault.Site.{Site}
use Rattle.ht_net.specs.declared.fault.Site.TheVariants.{Stem}
use Rattle.ht_net.specs.declared.place.Place.{Place}
use Rattle.ht_net.specs.Circuit.Netlist.{Netlist, IsCircuit, no_net}
use Rattle.ht_net.specs.Frames.Frame.{run_outputs}
use Rattle.ht_net.specs.Frames.Faults.{tern_rules, bool_rules}
use Rattle.ht_net.specs.Detect.Detection.{terns_of, DetectsFrom, IsFirstFrom, IsStart, IsState, unknown_state}
use Rattle.ht_net.specs.Detect.Silence.{Silent}
use Rattle.ht_net.specs.Detect.Undetectable.{IsUndetectable}
use Rattle.ht_slow.specs.Slow.{slow, slow_bit, slow_outputs, slow_bit_outputs}
use Rattle.ht_slow.specs.SlowDetection.{DetectsSlow, IsFirstSlow}
use Rattle.ht_slow.specs.Expanded.{expanded, listed_fault, slow_fault, start_over, before_of, AreLines}
use Rattle.ht_slow.proofs.CircuitLaws.{all_dffs}
use Rattle.ht_slow.proofs.RuleLaws.{absorbed, absorbed_bit, slow_expands, slow_bit_expands}
use Rattle.ht_slow.proofs.WiredLaws.{circuit_is_wired}
use Rattle.ht_slow.proofs.ListLaws.{expanded_good, expanded_listed}

pub good_terns : (c : Netlist) (sites : List Site) (start befores : List Tern) (vectors : List (List Tern))
    → IsCircuit c → AreLines c sites → length start ≡ length c.dffs → length befores ≡ length sites
    → run_outputs (expanded c sites) (tern_rules None) (start ++ befores) vectors
    ≡ run_outputs c (tern_rules None) start vectors
good_terns c sites start befores vectors circuit lines long more =
    expanded_good Unk gate_value (λ bit v. tern_of bit) (λ bit b v. slow bit b v) absorbed slow_expands c sites
    (circuit_is_wired c circuit) (λ k h. lines.lines k (Stem no_net) h) start befores long more vectors

pub good_bits : (c : Netlist) (sites : List Site) (state befores : List Bool) (vectors : List (List Bool))
    → IsCircuit c → AreLines c sites → length state ≡ length c.dffs → length befores ≡ length sites
    → run_outputs (expanded c sites) (bool_rules None) (state ++ befores) vectors
    ≡ run_outputs c (bool_rules None) state vectors
good_bits c sites state befores vectors circuit lines long more =
    expanded_good false bool_gate_value (λ bit v. bit) (λ bit b v. slow_bit bit b v) absorbed_bit slow_bit_expands c
    sites
    (circuit_is_wired c circuit) (λ k h. lines.lines k (Stem no_net) h) state befores long more vectors

pub stuck_terns : (c : Netlist) (sites : List Site) (k : ℕ) (value : Bool) (start befores : List Tern)
    (vectors : List (List Tern)) → IsCircuit c → AreLines c sites → k < length sites
    → length start ≡ length c.dffs → length befores ≡ length sites
    → run_outputs (expanded c sites) (tern_rules (Some (listed_fault c k value))) (start ++ befores) vectors
    ≡ slow_outputs c (slow_fault sites k value) (before_of Unk befores k) start vectors
stuck_terns c sites k value start befores vectors circuit lines h long more =
    expanded_listed Unk gate_value (λ bit v. tern_of bit) (λ bit b v. slow bit b v) absorbed slow_expands c sites
    (circuit_is_wired c circuit) (λ i l. lines.lines i (Stem no_net) l) lines.differ k value h start befores long more
    vectors

pub stuck_bits : (c : Netlist) (sites : List Site) (k : ℕ) (value : Bool) (state befores : List Bool)
    (vectors : List (List Bool)) → IsCircuit c → AreLines c sites → k < length sites
    → length state ≡ length c.dffs → length befores ≡ length sites
    → run_outputs (expanded c sites) (bool_rules (Some (listed_fault c k value))) (state ++ befores) vectors
    ≡ slow_bit_outputs c (slow_fault sites k value) (before_of false befores k) state vectors
stuck_bits c sites k value state befores vectors circuit lines h long more =
    expanded_listed false bool_gate_value (λ bit v. bit) (λ bit b v. slow_bit bit b v) absorbed_bit slow_bit_expands c
    sites (circuit_is_wired c circuit) (λ i l. lines.lines i (Stem no_net) l) lines.differ k value h state befores long
    more vectors

many_unknown : (n : ℕ) → length (replicate n Unk) ≡ n
many_unknown zero = refl
many_unknown (suc n) = ap suc (many_unknown n)

unknown_at : (n k : ℕ) → before_of Unk (replicate n Unk) k ≡ Unk
unknown_at zero zero = refl
unknown_at zero (suc k) = refl
unknown_at (suc n) zero = refl
unknown_at (suc n) (suc k) = unknown_at n k

pub detected_alike : (c : Netlist) (sites : List Site) (k : ℕ) (value : Bool) (start : List Tern)
    (list : List (List Bool)) (t o : ℕ) → IsCircuit c → AreLines c sites → k < length sites → IsStart c start
    → DetectsFrom (expanded c sites) (listed_fault c k value) (start_over start sites) list t o
    ↔ DetectsSlow c (slow_fault sites k value) start list t o
detected_alike c sites k value start list t o circuit lines h is =
    let vectors : List (List Tern) = map terns_of list in
    let befores : List Tern = replicate (length sites) Unk in
    let long : length befores ≡ length sites = many_unknown (length sites) in
    let p = good_terns c sites start befores vectors circuit lines is long in
    let q = stuck_terns c sites k value start befores vectors circuit lines h is long
    ∙ ap (λ (b : Tern). slow_outputs c (slow_fault sites k value) b start vectors) (unknown_at (length sites) k) in
    let opposite : List (List Tern) → List (List Tern) → Type 0 =
    λ a b. Opposite (get_or (get_or a t []) o Unk) (get_or (get_or b t []) o Unk) in
    let stuck : List (List Tern) =
    run_outputs (expanded c sites) (tern_rules (Some (listed_fault c k value))) (start ++ befores) vectors in
    let good : List (List Tern) = run_outputs c (tern_rules None) start vectors in (
      λ d. subst (λ b. opposite good b) q (subst (λ a. opposite a stuck) p d),
      λ d. subst (λ a. opposite a stuck) (sym p) (subst (λ b. opposite good b) (sym q) d),
    )

pub first_alike : (c : Netlist) (sites : List Site) (k : ℕ) (value : Bool) (start : List Tern)
    (list : List (List Bool)) (place : Option Place) → IsCircuit c → AreLines c sites → k < length sites
    → IsStart c start
    → IsFirstFrom (expanded c sites) (listed_fault c k value) (start_over start sites) list place
    → IsFirstSlow c (slow_fault sites k value) start list place
first_alike c sites k value start list None circuit lines h is first =
    λ t o d. first t o ((detected_alike c sites k value start list t o circuit lines h is).1 d)
first_alike c sites k value start list (Some p) circuit lines h is first = (
  (detected_alike c sites k value start list p.vector p.output circuit lines h is).0 first.0,
  λ t o before d. first.1 t o before ((detected_alike c sites k value start list t o circuit lines h is).1 d),
)

pub undetectable_alike : (c : Netlist) (sites : List Site) (k : ℕ) (value : Bool) (start : List Tern)
    → IsCircuit c → AreLines c sites → k < length sites → IsStart c start
    → IsUndetectable (expanded c sites) (listed_fault c k value) (start_over start sites)
    → (list : List (List Bool)) (t o : ℕ) → ¬ DetectsSlow c (slow_fault sites k value) start list t o
undetectable_alike c sites k value start circuit lines h is never list t o d =
    never.from_start list t o ((detected_alike c sites k value start list t o circuit lines h is).1 d)

replicated : (m n : ℕ) → replicate m Unk ++ replicate n Unk ≡ replicate (m + n) Unk
replicated zero n = let z : n ≡ 0 + n = omega arith in ap (λ (k : ℕ). replicate k Unk) z
replicated (suc m) n =
    let z : suc (m + n) ≡ suc m + n = omega arith in
    ap (λ (xs : List Tern). Unk ∷ xs) (replicated m n) ∙ ap (λ (k : ℕ). replicate k Unk) z

pub all_unknown : (c : Netlist) (sites : List Site)
    → start_over (unknown_state c) sites ≡ unknown_state (expanded c sites)
all_unknown c sites = replicated (length c.dffs) (length sites)
    ∙ ap (λ (n : ℕ). replicate n Unk) (sym (all_dffs c c sites))

pub silent_alike : (c : Netlist) (sites : List Site) (k : ℕ) (value : Bool) (state befores : List Bool)
    → IsCircuit c → AreLines c sites → k < length sites → IsState c state → length befores ≡ length sites
    → Silent (expanded c sites) (listed_fault c k value) (state ++ befores) → (list : List (List Bool))
    → run_outputs c (bool_rules None) state list
    ≡ slow_bit_outputs c (slow_fault sites k value) (before_of false befores k) state list
silent_alike c sites k value state befores circuit lines h is more silent list =
    sym (good_bits c sites state befores list circuit lines is more)
    ∙ (silent list ∙ stuck_bits c sites k value state befores list circuit lines h is more)
