-- What reads a net, by the count of its loads.
use Rattle.std.proofs.Common.{◌≡◌, ◌≢◌, ◌<◌, ◌≤◌, ◌+◌, ℕ, suc, List, [], ◌∷◌, cond, length, get_or, take, ap, arith, inl, inr}
use Rattle.std.specs.Prelude.{eqb}
use Rattle.std.specs.List.{sum_by}
use Rattle.std.proofs.lemmas.Bool.{eq-eqb}
use Rattle.std.proofs.lemmas.Bool.Decides.{eqb_tells}
use Rattle.std.proofs.lemmas.List.{get_or-take, length-take-le}
use Rattle.std.proofs.lemmas.List.Sums.{get_or-le-sum_by, sum_by-cons, sum_by_more_le}
use Rattle.ht_net.specs.declared.net.NetId.{NetId}
use Rattle.ht_net.specs.Circuit.Netlist.{Netlist, Gate, gate_at, arg_at, no_gate, no_net}
use Rattle.ht_net.specs.Circuit.Levels.{times}
use Rattle.ht_net.proofs.FrameLaws.{le_or_lt}
use Rattle.ht_stems.specs.declared.net_loads.NetLoads.TheVariants.{NoLoad, OneGate, OneDataPin, OneOutput}
use Rattle.ht_stems.specs.LoadsOfNets.{HasLoads}

module _ {X : Type 0} (f : X → ℕ) (xs : List X) (d : X) where
  -- two terms of a sum
  two_terms : (i j : ℕ) → i < j → j < length xs → f (get_or xs i d) + f (get_or xs j d) ≤ sum_by f xs
  two_terms i j less inside =
      let more = sum_by_more_le f xs j d inside in
      let long = length-take-le j xs (omega arith) in
      let one = get_or-le-sum_by f (take j xs) i d (omega (arith, long)) in
      let at : f (get_or (take j xs) i d) ≡ f (get_or xs i d) = ap f (get_or-take j xs i d less) in
      omega (arith, more, one, at)

  -- a sum of at most 1 has one term at most that isn't 0
  same_term : (i j : ℕ) → i < length xs → j < length xs → 0 < f (get_or xs i d) → 0 < f (get_or xs j d)
      → sum_by f xs ≤ 1 → i ≡ j
  same_term i j hi hj pi pj few = elim (eqb_tells i j) [
    | inl p ↦ p.1
    | inr p ↦
        let ne : i ≢ j = p.1 in
        elim (le_or_lt j i) [
          | inl at ↦ let two = two_terms j i (omega arith) hi in absurd (omega (arith, two))
          | inr less ↦ let two = two_terms i j less hj in absurd (omega (arith, two))
        ]
  ]

-- a list of nets has net x at no place
abbrev pub IsNotAmong : ℕ → List NetId → Type 0
IsNotAmong x nets = (o : ℕ) → o < length nets → (get_or nets o no_net).0 ≢ x

-- no pin of a gate reads net x
abbrev pub IsUnreadByGates : Netlist → ℕ → Type 0
IsUnreadByGates c x = (h i : ℕ) → h < length c.gates → i < length (gate_at c h).args → arg_at c h i ≢ x

-- no gate but g reads net x
abbrev pub IsReadByGate : Netlist → ℕ → ℕ → Type 0
IsReadByGate c x g = (h i : ℕ) → h < length c.gates → i < length (gate_at c h).args → arg_at c h i ≡ x → h ≡ g

-- how many pins of gates read net x
abbrev pins_at : Netlist → ℕ → ℕ
pins_at c x = sum_by (λ (g : Gate). times x g.args) c.gates

-- a net that stands in a list is counted
pub times_some : (x i : ℕ) (nets : List NetId) → i < length nets → (get_or nets i no_net).0 ≡ x → 0 < times x nets
times_some x i nets inside is =
    let le = get_or-le-sum_by (λ (n : NetId). cond (eqb n.0 x) 1 0) nets i no_net inside in
    let one : ◌≡◌ {A = ℕ} (cond (eqb (get_or nets i no_net).0 x) 1 0) 1 = ap (λ b. cond b 1 0) (eq-eqb _ x is) in
    omega (arith, le, one)

none_among : (x : ℕ) (nets : List NetId) → times x nets ≡ 0 → IsNotAmong x nets
none_among x nets none o inside is = let some = times_some x o nets inside is in omega (arith, some, none)

same_place : (x i j : ℕ) (nets : List NetId) → i < length nets → j < length nets → (get_or nets i no_net).0 ≡ x
    → (get_or nets j no_net).0 ≡ x → times x nets ≤ 1 → i ≡ j
same_place x i j nets hi hj ei ej few =
    let at : (k : ℕ) → (get_or nets k no_net).0 ≡ x → 0 < cond (eqb (get_or nets k no_net).0 x) 1 0 =
    λ k e.
    let one : ◌≡◌ {A = ℕ} (cond (eqb (get_or nets k no_net).0 x) 1 0) 1 = ap (λ b. cond b 1 0) (eq-eqb _ x e) in
    omega arith
    in
    same_term (λ (n : NetId). cond (eqb n.0 x) 1 0) nets no_net i j hi hj (at i ei) (at j ej) few

-- a net that is counted stands in the list
pub read_at : (x : ℕ) (nets : List NetId) → 0 < times x nets
    → (j : ℕ) × (j < length nets) × ((get_or nets j no_net).0 ≡ x)
read_at x [] some = absurd (omega (arith, some))
read_at x (n ∷ nets) some = elim (eqb_tells n.0 x) [
  | inl p ↦ (0, omega arith, p.1)
  | inr p ↦
      let cons = sum_by-cons (λ (m : NetId). cond (eqb m.0 x) 1 0) n nets in
      let none : ◌≡◌ {A = ℕ} (cond (eqb n.0 x) 1 0) 0 = ap (λ b. cond b 1 0) p.0 in
      let rest = read_at x nets (omega (arith, some, cons, none)) in
      (suc rest.0, omega (arith, rest.1), rest.2)
]

-- pins that read net x are counted with their gate's
pins_some : (c : Netlist) (x h : ℕ) → h < length c.gates → times x (gate_at c h).args ≤ pins_at c x
pins_some c x h inside = get_or-le-sum_by (λ (g : Gate). times x g.args) c.gates h no_gate inside

no_pins : (c : Netlist) (x : ℕ) → pins_at c x ≡ 0 → IsUnreadByGates c x
no_pins c x none h i gate pin is =
    let some = times_some x i (gate_at c h).args pin is in
    let part = pins_some c x h gate in
    omega (arith, some, part, none)

-- where a pin of a gate is a net's only load, no other gate reads the net
pub only_gate : (c : Netlist) (x g : ℕ) → HasLoads c x (OneGate g) → IsReadByGate c x g
only_gate c x g (one, known, reads) h i gate pin is =
    let some = times_some x i (gate_at c h).args pin is in
    same_term (λ (k : Gate). times x k.args) c.gates no_gate h g gate known some reads (omega (arith, one))

-- a net whose only load is a pin of a gate is at no data pin
pub gate_not_data : (c : Netlist) (x g : ℕ) → HasLoads c x (OneGate g) → IsNotAmong x c.dffs
gate_not_data c x g (one, known, reads) =
    let part = pins_some c x g known in
    none_among x c.dffs (omega (arith, one, part, reads))

-- a net whose only load is a pin of a gate is no output
pub gate_not_output : (c : Netlist) (x g : ℕ) → HasLoads c x (OneGate g) → IsNotAmong x c.outputs
gate_not_output c x g (one, known, reads) =
    let part = pins_some c x g known in
    none_among x c.outputs (omega (arith, one, part, reads))

-- Net x stands at place j of a list, and nothing else reads it: no pin of a gate, and no other place of this list or of
-- the others.
pub record IsAlone (c : Netlist) (x j : ℕ) (nets others : List NetId) : Type 0 where
  pub unread : IsUnreadByGates c x
  pub elsewhere : IsNotAmong x others
  pub only : (k : ℕ) → k < length nets → k ≢ j → (get_or nets k no_net).0 ≢ x

alone : (c : Netlist) (x j : ℕ) (nets others : List NetId) → pins_at c x + times x nets + times x others ≡ 1
    → j < length nets → (get_or nets j no_net).0 ≡ x → IsAlone c x j nets others
alone c x j nets others one known is =
    let some = times_some x j nets known is in
    record {
      unread = no_pins c x (omega (arith, one, some));
      elsewhere = none_among x others (omega (arith, one, some));
      only = λ k inside ne at. ne (same_place x k j nets inside known at is (omega (arith, one)));
    }

-- a net whose only load is a data pin is at no pin of a gate, at no other data pin, and no output
pub data_pin_alone : (c : Netlist) (x j : ℕ) → HasLoads c x (OneDataPin j) → IsAlone c x j c.dffs c.outputs
data_pin_alone c x j (one, known, is) = alone c x j c.dffs c.outputs (omega (arith, one)) known is

-- a net whose only load is an output is at no pin of a gate, at no data pin, and no other output
pub output_alone : (c : Netlist) (x o : ℕ) → HasLoads c x (OneOutput o) → IsAlone c x o c.outputs c.dffs
output_alone c x o (one, known, is) = alone c x o c.outputs c.dffs (omega (arith, one)) known is

-- a net without a load is read by no gate
pub unread_no_gate : (c : Netlist) (x : ℕ) → HasLoads c x NoLoad → IsUnreadByGates c x
unread_no_gate c x none = no_pins c x (omega (arith, none))

-- a net without a load is at no data pin
pub unread_not_data : (c : Netlist) (x : ℕ) → HasLoads c x NoLoad → IsNotAmong x c.dffs
unread_not_data c x none = none_among x c.dffs (omega (arith, none))

-- a net without a load is no output
pub unread_not_output : (c : Netlist) (x : ℕ) → HasLoads c x NoLoad → IsNotAmong x c.outputs
unread_not_output c x none = none_among x c.outputs (omega (arith, none))
