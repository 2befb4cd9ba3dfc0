-- The loads of nets, counted one by one.
use Rattle.std.proofs.Common.{◌≡◌, ◌≢◌, ◌<◌, ◌≤◌, ◌+◌, ◌∙◌, ℕ, List, true, false, length, get_or, set, take, refl, sym, ap, subst, arith, add_assoc, inl, inr, get_or-set_other, get_or-set_same}
use Rattle.std.specs.Prelude.{eqb}
use Rattle.std.proofs.lemmas.Bool.{eq-eqb, ne_eqb}
use Rattle.std.proofs.lemmas.Bool.Decides.{eqb_tells}
use Rattle.std.specs.List.{sum_by}
use Rattle.std.proofs.lemmas.List.{take_all}
use Rattle.std.proofs.lemmas.List.Sums.{count_by_more_yes, count_by_more_no, sum_by_more}
use Rattle.ht_net.specs.declared.net.NetId.{NetId}
use Rattle.ht_net.specs.Circuit.Netlist.{Netlist, Gate, gate_at, net_count, no_gate, no_net}
use Rattle.ht_net.specs.Circuit.Levels.{times}
use Rattle.ht_stems.specs.declared.net_loads.NetLoads.{NetLoads}
use Rattle.ht_stems.specs.declared.net_loads.NetLoads.TheVariants.{NoLoad, OneGate, OneDataPin, OneOutput, Several}
use Rattle.ht_stems.specs.LoadsOfNets.{CountsAs, CountsMore, HasEntries, HasLoads, with_load}

-- a table of as many entries
pub entries_left : {c : Netlist} {old table : List NetLoads} → HasEntries c old → length table ≡ length old
    → HasEntries c table
entries_left was long = record { circuit = was.circuit; count = omega (arith, was.count, long) }

-- one load more
one_more : (c : Netlist) (x n : ℕ) (loads load : NetLoads) → CountsAs c x n loads → CountsAs c x 1 load
    → CountsAs c x (n + 1) (with_load loads load)
one_more c x n NoLoad load none one =
    let P : ℕ → Type 0 = λ m. CountsAs c x m load in
    let e : 1 ≡ n + 1 = omega (arith, none) in
    subst P e one
one_more c x n (OneGate g) load some one = omega (arith, some.0)
one_more c x n (OneDataPin j) load some one = omega (arith, some.0)
one_more c x n (OneOutput o) load some one = omega (arith, some.0)
one_more c x n Several load some one = omega (arith, some)

-- The next net of a list has one load more.
load_added : (c : Netlist) (n : ℕ → ℕ) (table : List NetLoads) (nets : List NetId) (i y : ℕ) (load : NetLoads)
    → i < length nets → (get_or nets i no_net).0 ≡ y → y < length table → CountsAs c y 1 load
    → ((x : ℕ) → CountsAs c x (n x + times x (take i nets)) (get_or table x NoLoad))
    → (x : ℕ) → CountsAs c x (n x + times x (take (i + 1) nets))
    (get_or (set table y (with_load (get_or table y NoLoad) load)) x NoLoad)
load_added c n table nets i y load inside is known one before x = elim (eqb_tells x y) [
  | inl p ↦
      let yes : eqb (get_or nets i no_net).0 y ≡ true = eq-eqb (get_or nets i no_net).0 y is in
      let more : times y (take (i + 1) nets) ≡ times y (take i nets) + 1 =
      count_by_more_yes (λ (m : NetId). eqb m.0 y) nets i no_net inside yes in
      let here : get_or (set table y (with_load (get_or table y NoLoad) load)) y NoLoad
      ≡ with_load (get_or table y NoLoad) load =
      get_or-set_same table y (with_load (get_or table y NoLoad) load) NoLoad known in
      let sum : n y + times y (take i nets) + 1 ≡ n y + times y (take (i + 1) nets) = omega (arith, more) in
      let next = one_more c y (n y + times y (take i nets)) (get_or table y NoLoad) load (before y) one in
      let P : ℕ → Type 0 = λ m. CountsAs c y m (with_load (get_or table y NoLoad) load) in
      let Q : NetLoads → Type 0 = CountsAs c y (n y + times y (take (i + 1) nets)) in
      let R : ℕ → Type 0 = λ z. CountsAs c z (n z + times z (take (i + 1) nets))
      (get_or (set table y (with_load (get_or table y NoLoad) load)) z NoLoad) in
      subst R (sym p.1) (subst Q (sym here) (subst P sum next))
  | inr p ↦
      let ne : x ≢ y = p.1 in
      let no : eqb (get_or nets i no_net).0 x ≡ false =
      ne_eqb (get_or nets i no_net).0 x (λ e. ne (sym e ∙ is)) in
      let less : times x (take i nets) ≡ times x (take (i + 1) nets) =
      sym (count_by_more_no (λ (m : NetId). eqb m.0 x) nets i no_net inside no) in
      let same : get_or table x NoLoad ≡ get_or (set table y (with_load (get_or table y NoLoad) load)) x NoLoad =
      sym (get_or-set_other table y x (with_load (get_or table y NoLoad) load) NoLoad ne) in
      let P : ℕ → Type 0 = λ m. CountsAs c x (n x + m) (get_or table x NoLoad) in
      let Q : NetLoads → Type 0 = CountsAs c x (n x + times x (take (i + 1) nets)) in
      subst Q same (subst P less (before x))
]

-- nothing is counted of no list
pub counted_none : (c : Netlist) (table : List NetLoads) (nets : List NetId) → CountsMore c table table (take 0 nets)
counted_none c table nets n before x =
    let P : ℕ → Type 0 = λ m. CountsAs c x m (get_or table x NoLoad) in
    let same : n x ≡ n x + 0 = omega arith in
    subst P same (before x)

-- all of a list is counted, under another name of it
pub counted_all : (c : Netlist) (old table : List NetLoads) (nets all : List NetId) (k : ℕ) → length nets ≤ k
    → nets ≡ all → CountsMore c old table (take k nets) → CountsMore c old table all
counted_all c old table nets all k past is = subst (CountsMore c old table) (take_all k nets past ∙ is)

-- One more net of a list is counted, in a table that was written.
pub counted_more : (c : Netlist) (old table new : List NetLoads) (nets : List NetId) (i : ℕ) (net : NetId)
    (load : NetLoads) → new ≡ set table net.0 (with_load (get_or table net.0 NoLoad) load) → i < length nets
    → (get_or nets i no_net).0 ≡ net.0 → net.0 < length table → CountsAs c net.0 1 load
    → CountsMore c old table (take i nets) → CountsMore c old new (take (i + 1) nets)
counted_more c old table new nets i net load written inside is known one before n h x =
    let P : List NetLoads → Type 0 = λ t. CountsAs c x (n x + times x (take (i + 1) nets)) (get_or t x NoLoad) in
    subst P (sym written) (load_added c n table nets i net.0 load inside is known one (before n h) x)

-- One more net of a list of the circuit's nets is counted, which was read.
pub place_counted : (c : Netlist) (old table new : List NetLoads) (nets : List NetId) (i : ℕ) (net : NetId)
    (load : NetLoads) → HasEntries c table → new ≡ set table net.0 (with_load (get_or table net.0 NoLoad) load)
    → i < length nets → net ≡ get_or nets i no_net → (get_or nets i no_net).0 < net_count c
    → ((get_or nets i no_net).0 ≡ net.0 → CountsAs c net.0 1 load)
    → CountsMore c old table (take i nets) → CountsMore c old new (take (i + 1) nets)
place_counted c old table new nets i net load entries written inside is known one =
    let at : (get_or nets i no_net).0 ≡ net.0 = ap (λ (n : NetId). n.0) (sym is) in
    let count = entries.count in
    counted_more c old table new nets i net load written inside at (omega (arith, at, known, count)) (one at)

-- The pins of one more gate are counted.
pub gate_counted : (c : Netlist) (table : List NetLoads) (g : ℕ) → g < length c.gates
    → ((x : ℕ) → CountsAs c x (sum_by (λ (h : Gate). times x h.args) (take g c.gates) + times x (gate_at c g).args)
    (get_or table x NoLoad))
    → (x : ℕ) → CountsAs c x (sum_by (λ (h : Gate). times x h.args) (take (g + 1) c.gates)) (get_or table x NoLoad)
gate_counted c table g inside counted x =
    let P : ℕ → Type 0 = λ m. CountsAs c x m (get_or table x NoLoad) in
    subst P (sym (sum_by_more (λ (h : Gate). times x h.args) c.gates g no_gate inside)) (counted x)

-- a table that counts the pins of the first k gates counts those of all, where there are no more than k
pub gates_counted : (c : Netlist) (table : List NetLoads) (k : ℕ) → length c.gates ≤ k
    → ((x : ℕ) → CountsAs c x (sum_by (λ (h : Gate). times x h.args) (take k c.gates)) (get_or table x NoLoad))
    → (x : ℕ) → CountsAs c x (sum_by (λ (h : Gate). times x h.args) c.gates) (get_or table x NoLoad)
gates_counted c table k past counted x =
    let P : List Gate → Type 0 = λ l. CountsAs c x (sum_by (λ (h : Gate). times x h.args) l) (get_or table x NoLoad) in
    subst P (take_all k c.gates past) (counted x)

-- where nothing is counted yet
pub none_counted : (c : Netlist) (table : List NetLoads) → ((x : ℕ) → get_or table x NoLoad ≡ NoLoad)
    → (x : ℕ) → CountsAs c x 0 (get_or table x NoLoad)
none_counted c table none x =
    let P : NetLoads → Type 0 = CountsAs c x 0 in
    let zero : P NoLoad = refl in
    subst P (sym (none x)) zero

-- Where the pins, the data pins and the outputs are counted, all loads are.
pub all_counted : (c : Netlist) (first second third : List NetLoads)
    → ((x : ℕ) → CountsAs c x (sum_by (λ (g : Gate). times x g.args) c.gates) (get_or first x NoLoad))
    → CountsMore c first second c.dffs → CountsMore c second third c.outputs
    → (x : ℕ) → HasLoads c x (get_or third x NoLoad)
all_counted c first second third gates latches outputs x =
    let pins : ℕ → ℕ = λ y. sum_by (λ (g : Gate). times y g.args) c.gates in
    let P : ℕ → Type 0 = λ m. CountsAs c x m (get_or third x NoLoad) in
    subst P (add_assoc (pins x) (times x c.dffs) (times x c.outputs))
    (outputs (λ y. pins y + times y c.dffs) (latches pins gates) x)
