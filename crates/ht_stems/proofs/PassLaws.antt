-- A pass back over the nets of a frame.
use Rattle.std.proofs.Common.{◌≡◌, ◌≢◌, ◌<◌, ◌+◌, ◌-◌, ◌∙◌, ◌↔◌, ℕ, List, Bool, true, false, None, length, get_or, set, refl, sym, ap, subst, arith, inl, inr}
use Rattle.std.proofs.lemmas.List.{set-get_or, set-set}
use Rattle.std.specs.Prelude.{IsTrue}
use Rattle.ht_tern.specs.declared.tern.Tern.{Tern}
use Rattle.ht_tern.specs.declared.tern.Tern.TheVariants.{Zero, Unk}
use Rattle.ht_net.specs.Circuit.Netlist.{Netlist, first_gate_net, net_count, gate_at, arg_at, IsReady, IsOrder}
use Rattle.ht_net.specs.Frames.Frame.{gate_output}
use Rattle.ht_net.specs.Frames.Faults.{tern_rules}
use Rattle.ht_net.proofs.FrameLaws.{le_or_lt}
use Rattle.ht_frame.specs.Values.{env_of}
use Rattle.ht_stems.specs.declared.arrival.Arrival.{Arrival}
use Rattle.ht_stems.specs.declared.net_ends.NetEnds.{NetEnds}
use Rattle.ht_stems.specs.declared.net_loads.NetLoads.{NetLoads}
use Rattle.ht_stems.specs.declared.net_loads.NetLoads.TheVariants.{NoLoad, OneGate}
use Rattle.ht_stems.specs.ForcedNets.{with_net_value}
use Rattle.ht_stems.specs.LoadsOfNets.{AreLoads, HasLoads}
use Rattle.ht_stems.specs.Arrivals.{Arrives, through_gate}
use Rattle.ht_stems.specs.NetEnds.{AreTableEnds, AreEndsAfter, AreNetEnds, end_at, no_ends}
use Rattle.ht_stems.proofs.ReadLaws.{read_at}

-- A value that was put in place of a net's own is taken out again.
pub put_back : (values : List Tern) (x y z : ℕ) (v : Tern) → y ≡ x → z ≡ x
    → set (set values y v) z (get_or values x Zero) ≡ values
put_back values x y z v at back =
    let own : Tern = get_or values x Zero in
    ap (λ (n : ℕ). set (set values n v) z own) at
    ∙ (ap (λ (n : ℕ). set (set values x v) n own) back ∙ (set-set values x v own ∙ set-get_or values x Zero))

-- a value that a test denies
pub not_value : {good v : Tern} {r : Bool} → (IsTrue r ↔ (good ≡ v)) → r ≡ false → v ≢ good
not_value {r = r} told denied e = let yes : r ≡ true = told.1 (sym e) in cc

-- a fact that a test decides doesn't hold where the test fails
pub not_told : {P : Type 0} → (r : Bool) → (IsTrue r ↔ P) → r ≡ false → ¬ P
not_told r told denied p = let yes : r ≡ true = told.1 p in cc

-- the loads of a net, by its entry
pub entry_loads : {c : Netlist} {loads : List NetLoads} {x i : ℕ} {entry : NetLoads} → AreLoads c loads
    → x < net_count c → i ≡ x → get_or loads i NoLoad ≡ entry → HasLoads c x entry
entry_loads {c} {loads} {x} are known at is =
    subst (HasLoads c x) (ap (λ (n : ℕ). get_or loads n NoLoad) (sym at) ∙ is) (are.each x known)

-- An effect goes on through the one gate that reads the net.
pub ends_through : (c : Netlist) (good : ℕ → Tern) (loads : List NetLoads) (table : List NetEnds) (x g : ℕ)
    (v output : Tern) → x < net_count c → AreLoads c loads → v ≢ good x → get_or loads x NoLoad ≡ OneGate g
    → AreEndsAfter c good loads table x → output ≡ gate_output c (tern_rules None) (with_net_value good x v) g
    → Arrives c good x v (end_at (get_or table (first_gate_net c + g) no_ends) output)
ends_through c good loads table x g v output known are other is after gives =
    let a : Arrival = end_at (get_or table (first_gate_net c + g) no_ends) output in
    let P : Tern → Type 0 = λ w. Arrives c good (first_gate_net c + g) w a in
    through_gate x v g a other (subst (HasLoads c x) is (are.each x known)) (subst P gives (after g is output))

-- In an order of the gates a gate that reads another one's net comes later.
later_gate : (c : Netlist) (order : List ℕ) → IsOrder c order → (k g i : ℕ) → k < length order → g < length c.gates
    → i < length (gate_at c g).args → arg_at c g i ≡ first_gate_net c + get_or order k 0
    → (j : ℕ) × (k < j) × (j < length order) × (get_or order j 0 ≡ g)
later_gate c order ordered k g i inside known pin is =
    let q = ordered.each.covers g known in
    let P : ℕ → Type 0 = λ h. i < length (gate_at c h).args in
    let R : ℕ → Type 0 = λ h. IsReady c order q.0 (arg_at c h i) in
    let ready : IsReady c order q.0 (arg_at c g i) = subst R q.2 (ordered.earlier q.0 i q.1 (subst P (sym q.2) pin)) in
    elim ready [
      | inl low ↦ absurd (omega (arith, low, is))
      | inr p ↦
          let at : get_or order p.0 0 ≡ get_or order k 0 = omega (arith, p.2, is) in
          elim (le_or_lt k p.0) [
            | inl le ↦ (q.0, omega (arith, le, p.1), q.1, q.2)
            | inr less ↦ absurd (ordered.each.distinct p.0 k 0 less inside at)
          ]
    ]

-- what is said of a gate's net under another number of the gate
ends_moved : (c : Netlist) (good : ℕ → Tern) (table : List NetEnds) (h g : ℕ) → h ≡ g
    → AreNetEnds c good (first_gate_net c + h) (get_or table (first_gate_net c + h) no_ends)
    → AreNetEnds c good (first_gate_net c + g) (get_or table (first_gate_net c + g) no_ends)
ends_moved c good table h g same are =
    let P : ℕ → Type 0 = λ k. AreNetEnds c good (first_gate_net c + k) (get_or table (first_gate_net c + k) no_ends) in
    subst P same are

-- So where the effects end of all that come later in the order, they do after the net of its place k.
pub ends_later : (c : Netlist) (good : ℕ → Tern) (loads : List NetLoads) (table : List NetEnds) (order : List ℕ) (k : ℕ)
    → IsOrder c order → AreLoads c loads → k < length order
    → ((j : ℕ) → k < j → j < length order → AreNetEnds c good (first_gate_net c + get_or order j 0)
    (get_or table (first_gate_net c + get_or order j 0) no_ends))
    → AreEndsAfter c good loads table (first_gate_net c + get_or order k 0)
ends_later c good loads table order k ordered are inside done g is =
    let x : ℕ = first_gate_net c + get_or order k 0 in
    let within = ordered.each.within k inside in
    let reads : HasLoads c x (OneGate g) = entry_loads are (omega (arith, within)) refl is in
    let pin = read_at x (gate_at c g).args reads.2 in
    let later = later_gate c order ordered k g pin.0 inside reads.1 pin.1 pin.2 in
    ends_moved c good table (get_or order later.0 0) g later.3 (done later.0 later.1 later.2)

-- the same where the net and the values have other names
pub gates_after : (c : Netlist) (values others : List Tern) (loads : List NetLoads) (table : List NetEnds)
    (order : List ℕ) (k x : ℕ) → IsOrder c order → AreLoads c loads → k < length order
    → others ≡ values → x ≡ first_gate_net c + get_or order k 0
    → ((j : ℕ) → k < j → j < length order → AreNetEnds c (env_of Unk values) (first_gate_net c + get_or order j 0)
    (get_or table (first_gate_net c + get_or order j 0) no_ends))
    → AreEndsAfter c (env_of Unk others) loads table x
gates_after c values others loads table order k x ordered are inside same at done =
    let P : List Tern → Type 0 = λ l. AreEndsAfter c (env_of Unk l) loads table x in
    let Q : ℕ → Type 0 = λ n. AreEndsAfter c (env_of Unk values) loads table n in
    subst P (sym same) (subst Q (sym at) (ends_later c (env_of Unk values) loads table order k ordered are inside done))

-- All nets have where their effects end, once the sources and each gate of an order have.
pub all_gates_end : (c : Netlist) (good : ℕ → Tern) (table : List NetEnds) (order : List ℕ) → IsOrder c order
    → ((j : ℕ) → j < length order → AreNetEnds c good (first_gate_net c + get_or order j 0)
    (get_or table (first_gate_net c + get_or order j 0) no_ends))
    → (g : ℕ) → g < length c.gates
    → AreNetEnds c good (first_gate_net c + g) (get_or table (first_gate_net c + g) no_ends)
all_gates_end c good table order ordered done g known =
    let q = ordered.each.covers g known in
    ends_moved c good table (get_or order q.0 0) g q.2 (done q.0 q.1)

-- a table that says where effects end for inputs, flip-flops and gates says so for each net
pub all_nets_end : (c : Netlist) (good : ℕ → Tern) (table : List NetEnds)
    → ((x : ℕ) → x < first_gate_net c → AreNetEnds c good x (get_or table x no_ends))
    → ((g : ℕ) → g < length c.gates
    → AreNetEnds c good (first_gate_net c + g) (get_or table (first_gate_net c + g) no_ends))
    → AreTableEnds c good table
all_nets_end c good table low gates x known = elim (le_or_lt (first_gate_net c) x) [
  | inl at ↦
      let P : ℕ → Type 0 = λ y. AreNetEnds c good y (get_or table y no_ends) in
      let is : first_gate_net c + (x - first_gate_net c) ≡ x = omega arith in
      let here : P x = subst P is (gates (x - first_gate_net c) (omega arith)) in
      here
  | inr below ↦ low x below
]
