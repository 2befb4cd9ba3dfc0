-- A circuit with lines expanded is well formed where it keeps the limits and its names differ.
use Rattle.std.proofs.Common.{◌≡◌, ◌<◌, ◌≤◌, ◌+◌, ◌-◌, ◌*◌, ℕ, suc, zero, List, [], ◌∷◌, ◌++◌, Bool, true, false, cond, length, get_or, refl, sym, ◌∙◌, ap, subst, arith, inl, inr}
use Rattle.std.specs.List.{sum_by}
use Rattle.std.proofs.lemmas.List.{length-set}
use Rattle.std.proofs.lemmas.List.Sums.{sum_by-cons}
use Rattle.std.proofs.lemmas.Bool.{true≢false}
use Rattle.std.proofs.lemmas.Bool.Decides.{nat_tests, eqb_tells}
use Rattle.ht_tern.specs.Gate.{HasArity}
use Rattle.ht_net.specs.declared.net.NetId.{NetId}
use Rattle.ht_net.specs.declared.fault.Site.{Site}
use Rattle.ht_net.specs.declared.fault.Site.TheVariants.{Stem, DffPin, GatePin}
use Rattle.ht_net.specs.Build.Named.{Name}
use Rattle.ht_net.specs.Circuit.Lists.{AllDiffer}
use Rattle.ht_net.specs.Circuit.Netlist.{Netlist, Gate, no_net, first_gate_net, net_count, pin_count, gate_at, arg_at, IsCircuit, IsRank, max_nets, max_pins, max_dffs, max_arguments}
use Rattle.ht_net.specs.Frames.Faults.{is_stem}
use Rattle.ht_net.proofs.Depth.{IsDepth}
use Rattle.ht_net.proofs.FrameLaws.{le_or_lt}
use Rattle.ht_slow.specs.Slow.{IsLine}
use Rattle.ht_slow.specs.ExpandedLine.{moved, line_net, read_net, read_args, read_gates, net, expanded_line}
use Rattle.ht_slow.specs.LineNames.{line_stump, shown_name, before_name, both_name, renamed, with_three}
use Rattle.ht_slow.specs.Expanded.{line_in, names_over, expand_line, expand_on, expanded, AreLines}
use Rattle.ht_slow.proofs.PlaceLaws.{read_gate, gates_length, old_gate, first_new_gate, second_new_gate, args_length, dffs_length}
use Rattle.ht_slow.proofs.RuleLaws.{moved_once}
use Rattle.ht_slow.proofs.Wired.{IsWired}
use Rattle.ht_slow.proofs.WiredLaws.{circuit_is_wired, expanded_is_wired, map_at, map_length}
use Rattle.ht_slow.proofs.OverLaws.{IsOver, over_itself, over_more, line_stays, dffs_more, gates_more}
use Rattle.ht_slow.proofs.ListLaws.{AllLines}

-- how many pins a list of gates has
abbrev width : Gate → ℕ
width gate = length gate.args

gate_pins : (c : Netlist) (site : Site) (g : ℕ) (gates : List Gate)
    → sum_by width (read_gates c site g gates) ≡ sum_by width gates + 4
gate_pins c site g [] = refl
gate_pins c site g (gate ∷ gates) =
    let here = sum_by-cons width (read_gate c site g gate) (read_gates c site (g + 1) gates) in
    let there = sum_by-cons width gate gates in
    let rest = gate_pins c site (g + 1) gates in
    let same : width (read_gate c site g gate) ≡ width gate = args_length c site g 0 gate.args in
    omega (arith, here, there, rest, same)

moved_small : (c : Netlist) (x : ℕ) → x < net_count c → moved c x < suc (net_count c)
moved_small c x h = grind (arith, nat_tests)

-- two nets are read as one only where they are one
stem_is : (site : Site) (x y : ℕ) → is_stem site x ≡ true → is_stem site y ≡ true → x ≡ y
stem_is (Stem z) x y p q = elim (eqb_tells x z.0) [
  | inl a ↦ elim (eqb_tells y z.0) [
    | inl b ↦ a.1 ∙ sym b.1
    | inr b ↦ absurd (true≢false (sym q ∙ b.0))
  ]
  | inr a ↦ absurd (true≢false (sym p ∙ a.0))
]
stem_is (DffPin j) x y p q = absurd (true≢false (sym p))
stem_is (GatePin g i) x y p q = absurd (true≢false (sym p))

read_once_by : (c : Netlist) (site : Site) (x y : ℕ) (p q : Bool) → x < net_count c → y < net_count c
    → is_stem site x ≡ p → is_stem site y ≡ q
    → cond p (line_net c) (moved c x) ≡ cond q (line_net c) (moved c y) → x ≡ y
read_once_by c site x y true true h k p q same = stem_is site x y p q
read_once_by c site x y true false h k p q same = let l = moved_small c y k in absurd (omega (arith, l, same))
read_once_by c site x y false true h k p q same = let l = moved_small c x h in absurd (omega (arith, l, same))
read_once_by c site x y false false h k p q same = moved_once c x y same

read_once : (c : Netlist) (site : Site) (a b : NetId) → a.0 < net_count c → b.0 < net_count c
    → read_net c site false a ≡ read_net c site false b → a ≡ b
read_once c site a b h k same =
    ap net (read_once_by c site a.0 b.0 (is_stem site a.0) (is_stem site b.0) h k refl refl
    (ap (λ (n : NetId). n.0) same))

-- a gate has as many arguments as its kind may have
abbrev Suits : Gate → Type 0
Suits gate = HasArity gate.kind (length gate.args) × (length gate.args ≤ max_arguments)

suits : (c : Netlist) (site : Site) (names : List (List ℕ))
    → ((k : ℕ) → k < length c.gates → Suits (gate_at c k)) → (g : ℕ)
    → g < length (expanded_line c site names).gates → Suits (gate_at (expanded_line c site names) g)
suits c site names old_suits g h =
    let n = gates_length c site 0 c.gates in
    elim (le_or_lt (length c.gates) g) [
      | inr old ↦
          let w : length (gate_at c g).args ≡ length (read_args c site (0 + g) 0 (gate_at c g).args) =
          sym (args_length c site (0 + g) 0 (gate_at c g).args) in
          subst Suits (sym (old_gate c site 0 c.gates g old)) (
            subst (HasArity (gate_at c g).kind) w (old_suits g old).0,
            subst (λ (k : ℕ). k ≤ max_arguments) w (old_suits g old).1,
          )
      | inl new ↦ elim (eqb_tells g (length c.gates)) [
        | inl p ↦ subst (λ (k : ℕ). Suits (gate_at (expanded_line c site names) k)) (sym p.1)
            (subst Suits (sym (first_new_gate c site 0 c.gates)) (refl, omega arith))
        | inr p ↦
            let is : suc (length c.gates) ≡ g = omega (arith, n, p.1) in
            subst (λ (k : ℕ). Suits (gate_at (expanded_line c site names) k)) is
            (subst Suits (sym (second_new_gate c site 0 c.gates)) (refl, omega arith))
      ]
    ]

-- a depth of the nets is a rank of the gates
depth_is_rank : (c : Netlist) (depth : ℕ → ℕ) → IsDepth c depth
    → IsRank (first_gate_net c) c.gates (λ g. depth (first_gate_net c + g))
depth_is_rank c depth deep = record {
  falls = λ g i h l at.
      let x : ℕ = arg_at c g i in
      let e : first_gate_net c + (x - first_gate_net c) ≡ x = omega arith in
      subst (λ (k : ℕ). depth k < depth (first_gate_net c + g)) (sym e) (deep.falls g i h l);
}

-- what is well formed of a circuit but for its names and limits
pub record IsShaped (c : Netlist) : Type 0 where
  pub wired : IsWired c
  pub suits : (g : ℕ) → g < length c.gates → Suits (gate_at c g)
  pub outputs_differ : AllDiffer c.outputs
  pub named : length c.names ≡ net_count c

pub circuit_is_shaped : (c : Netlist) → IsCircuit c → IsShaped c
circuit_is_shaped c circuit = record {
  wired = circuit_is_wired c circuit;
  suits = λ g h. (circuit.arities g h, circuit.few_args g h);
  outputs_differ = circuit.outputs_differ;
  named = circuit.named;
}

pub expanded_is_shaped : (c : Netlist) (site : Site) (names : List (List ℕ)) → IsShaped c → IsLine c site
    → length names ≡ net_count c + 3 → IsShaped (expanded_line c site names)
expanded_is_shaped c site names shaped line named =
    let m = dffs_length c site 0 c.dffs in
    let n = gates_length c site 0 c.gates in
    let known = shaped.wired.outputs_known in
    record {
      wired = expanded_is_wired c site names shaped.wired line;
      suits = suits c site names shaped.suits;
      outputs_differ = λ i j x less h same. let l = map_length c site c.outputs in
          shaped.outputs_differ i j no_net less (omega (arith, l))
          (read_once c site (get_or c.outputs i no_net) (get_or c.outputs j no_net)
          (known i (omega (arith, l))) (known j (omega (arith, l)))
          (sym (map_at c site c.outputs i x (omega (arith, l)))
          ∙ (same ∙ map_at c site c.outputs j x (omega (arith, l)))));
      named = omega (arith, m, n, named);
    }

-- three names more
one_by_two : (names : List Name) (l b : Name) → suc (length (names ++ l ∷ b ∷ [])) ≡ length names + 3
one_by_two [] l b = omega arith
one_by_two (n ∷ names) l b = let rest = one_by_two names l b in omega (arith, rest)

length_three : (first : ℕ) (names : List Name) (p l b : Name)
    → length (with_three first names p l b) ≡ length names + 3
length_three zero names p l b = one_by_two names l b
length_three (suc first) [] p l b = omega arith
length_three (suc first) (n ∷ names) p l b = let rest = length_three first names p l b in omega (arith, rest)

pub length_renamed : (names : List Name) (site : Site) (name : Name) → length (renamed names site name) ≡ length names
length_renamed names (Stem x) name = length-set names x.0 name
length_renamed names (DffPin j) name = refl
length_renamed names (GatePin g i) name = refl

pub more_is_shaped : (c e : Netlist) → IsOver c e → IsShaped e → (site : Site) → IsLine c site
    → IsShaped (expand_line c e site)
more_is_shaped c e over shaped site line =
    let at : Site = line_in c e site in
    let t = length_three (first_gate_net e) (renamed e.names at (line_stump c site)) (before_name c site)
    (shown_name c site) (both_name c site) in
    let r = length_renamed e.names at (line_stump c site) in
    let n = shaped.named in
    expanded_is_shaped e at (names_over c e site) shaped (line_stays c e over site line) (omega (arith, t, r, n))

-- how many nets, pins and flip-flops there are with a line more
nets_more : (c e : Netlist) (site : Site) → net_count (expand_line c e site) ≡ net_count e + 3
nets_more c e site = let d = dffs_more c e site in let g = gates_more c e site in omega (arith, d, g)

pins_more : (c e : Netlist) (site : Site) → pin_count (expand_line c e site) ≡ pin_count e + 5
pins_more c e site =
    let d = dffs_more c e site in
    let w = gate_pins e (line_in c e site) 0 e.gates in
    omega (arith, d, w)

pub all_shaped : (c e : Netlist) (sites : List Site) → IsOver c e → IsShaped e → AllLines c sites
    → IsShaped (expand_on c e sites)
all_shaped c e [] over shaped lines = shaped
all_shaped c e (site ∷ sites) over shaped lines =
    let here = lines 0 (omega arith) in
    all_shaped c (expand_line c e site) sites (over_more c e over shaped.wired site here)
    (more_is_shaped c e over shaped site here) (λ k h. lines (suc k) (omega arith))

pub all_nets : (c e : Netlist) (sites : List Site) → net_count (expand_on c e sites) ≡ net_count e + 3 * length sites
all_nets c e [] = omega arith
all_nets c e (site ∷ sites) =
    let rest = all_nets c (expand_line c e site) sites in
    let here = nets_more c e site in
    omega (arith, rest, here)

pub all_pins : (c e : Netlist) (sites : List Site) → pin_count (expand_on c e sites) ≡ pin_count e + 5 * length sites
all_pins c e [] = omega arith
all_pins c e (site ∷ sites) =
    let rest = all_pins c (expand_line c e site) sites in
    let here = pins_more c e site in
    omega (arith, rest, here)

pub all_dffs : (c e : Netlist) (sites : List Site)
    → length (expand_on c e sites).dffs ≡ length e.dffs + length sites
all_dffs c e [] = omega arith
all_dffs c e (site ∷ sites) =
    let rest = all_dffs c (expand_line c e site) sites in
    let here = dffs_more c e site in
    omega (arith, rest, here)

same_inputs : (c e : Netlist) (sites : List Site) → (expand_on c e sites).inputs ≡ e.inputs
same_inputs c e [] = refl
same_inputs c e (site ∷ sites) = same_inputs c (expand_line c e site) sites

pub all_is_circuit : (c : Netlist) (sites : List Site) → IsCircuit c → AreLines c sites
    → net_count c + 3 * length sites ≤ max_nets → pin_count c + 5 * length sites ≤ max_pins
    → length c.dffs + length sites ≤ max_dffs → AllDiffer (expanded c sites).names → IsCircuit (expanded c sites)
all_is_circuit c sites circuit lines nets pins dffs differ =
    let big : Netlist = expanded c sites in
    let shaped = all_shaped c c sites (over_itself c) (circuit_is_shaped c circuit)
    (λ k h. lines.lines k (Stem no_net) h) in
    let n = all_nets c c sites in
    let p = all_pins c c sites in
    let d = all_dffs c c sites in
    let i = same_inputs c c sites in
    let few = circuit.few_inputs in
    record {
      few_nets = omega (arith, n, nets);
      few_pins = omega (arith, p, pins);
      few_inputs = omega (arith, i, few);
      few_dffs = omega (arith, d, dffs);
      arities = λ g h. (shaped.suits g h).0;
      few_args = λ g h. (shaped.suits g h).1;
      known = shaped.wired.deep.known;
      data_known = shaped.wired.data_known;
      outputs_known = shaped.wired.outputs_known;
      outputs_differ = shaped.outputs_differ;
      named = shaped.named;
      names_differ = differ;
      ranked = (
        λ g. shaped.wired.depth (first_gate_net big + g),
        depth_is_rank big shaped.wired.depth shaped.wired.deep,
      );
    }
