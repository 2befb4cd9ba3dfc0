-- The ranks of what reads each net, from the table of the items that read it.
use Rattle.std.specs.List.{Contains}
use Rattle.std.proofs.Common.{◌≡◌, ◌<◌, ◌≤◌, ◌+◌, ◌-◌, ◌∙◌, ℕ, List, [], ◌∷◌, ◌++◌, length, get_or, ap, sym, subst, arith, inl, inr}
use Rattle.std.proofs.lemmas.Bool.{cases_lt}
use Rattle.std.proofs.lemmas.List.{get_or_past, get_or_push, get_or_append_left, length_push}
use Rattle.std.proofs.lemmas.List.Elements.{Contains-push, Contains-push_cases, Contains-append_left}
use Rattle.ht_net.specs.Circuit.Netlist.{Netlist, IsCircuit, first_gate_net, net_count, gate_at, arg_at}
use Rattle.ht_events.specs.Items.{IsGateOn, driven_net}
use Rattle.ht_events.specs.FramePlans.{IsTable}
use Rattle.ht_events.specs.Schedules.{AreGateRanks, AreReaders, ReadsFrom}

-- a gate's net reads from the net at each of its pins
pub reads_pin : (c : Netlist) (g i n : ℕ) → g < length c.gates → i < length (gate_at c g).args → n ≡ arg_at c g i
    → ReadsFrom c (first_gate_net c + g) n
reads_pin c g i n inside pin net =
    let at : g ≡ first_gate_net c + g - first_gate_net c = omega arith in
    record {
      pin = i;
      is_gate = omega arith;
      known = omega (arith, inside);
      is_pin = subst (λ (h : ℕ). i < length (gate_at c h).args) at pin;
      reads = ap (λ (h : ℕ). arg_at c h i) (sym at) ∙ sym net;
    }

-- the net that a gate drives reads from those that the gate does
gate_reads_from : (c : Netlist) (l x : ℕ) → IsGateOn c l x → ReadsFrom c (driven_net c l) x
gate_reads_from c l x on =
    let is = on.is_gate in
    let at : first_gate_net c + (l - length c.dffs) ≡ driven_net c l = omega (arith, is) in
    subst (λ (y : ℕ). ReadsFrom c y x) at
    (reads_pin c (l - length c.dffs) on.pin x (omega (arith, is, on.known)) on.is_pin (sym on.reads))

-- what drives a net that reads from another is a gate on that one
gate_on : (c : Netlist) (y x : ℕ) → ReadsFrom c y x → IsGateOn c (y - c.inputs) x
gate_on c y x reads =
    let gate = reads.is_gate in
    let at : y - first_gate_net c ≡ y - c.inputs - length c.dffs = omega arith in
    record {
      pin = reads.pin;
      is_gate = omega (arith, gate);
      known = omega (arith, gate, reads.known);
      is_pin = subst (λ (g : ℕ). reads.pin < length (gate_at c g).args) at reads.is_pin;
      reads = ap (λ (g : ℕ). arg_at c g reads.pin) (sym at) ∙ reads.reads;
    }

no_items : (xs : List ℕ) (x : ℕ) → xs ≡ [] → ¬ Contains xs x
no_items xs x is h =
    let none = ap (λ (l : List ℕ). length l) is in
    let less = h.1 in
    omega (arith, none, less)

module _ (c : Netlist) (ranks items row : List ℕ) where
  module _ (h : AreGateRanks c ranks items row) (l : ℕ) where
    kept : (new : List ℕ) → ((r : ℕ) → Contains row r → Contains new r)
        → (length c.dffs ≤ l → Contains new (get_or ranks (driven_net c l) 0))
        → (k : ℕ) → Contains (items ++ l ∷ []) k → length c.dffs ≤ k → Contains new (get_or ranks (driven_net c k) 0)
    kept new keeps has k there gate = elim (Contains-push_cases items l k there) [
      | inl old ↦ keeps (get_or ranks (driven_net c k) 0) (h.complete k old gate)
      | inr is ↦ subst (λ (m : ℕ). Contains new (get_or ranks (driven_net c m) 0)) is
          (has (omega (arith, is, gate)))
    ]

    old_item : (r : ℕ) → Contains row r → (k : ℕ) × Contains (items ++ l ∷ []) k × (length c.dffs ≤ k)
        × (r ≡ get_or ranks (driven_net c k) 0)
    old_item r there =
        let found = h.sound r there in
        (found.0, Contains-append_left items (l ∷ []) found.0 found.1, found.2, found.3)

    -- one item more, which is a flip-flop
    pub rank_passed : l < length c.dffs → AreGateRanks c ranks (items ++ l ∷ []) row
    rank_passed dff = record {
      complete = kept row (λ r there. there) (λ gate. absurd (omega (arith, dff, gate)));
      sound = old_item;
    }

    -- one item more, which is a gate
    pub rank_pushed : (n : ℕ) → n ≡ get_or ranks (driven_net c l) 0 → length c.dffs ≤ l
        → AreGateRanks c ranks (items ++ l ∷ []) (row ++ n ∷ [])
    rank_pushed n is gate = record {
      complete = kept (row ++ n ∷ []) (Contains-append_left row (n ∷ []))
          (λ again. subst (λ (r : ℕ). Contains (row ++ n ∷ []) r) is (Contains-push row n));
      sound = λ r there. elim (Contains-push_cases row n r there) [
        | inl old ↦ old_item r old
        | inr e ↦ (l, Contains-push items l, gate, sym e ∙ is)
      ];
    }

-- a net's row, with the ranks of the nets that read from it
pub record IsRankRow (c : Netlist) (ranks : List ℕ) (x : ℕ) (row : List ℕ) : Type 0 where
  pub complete : (y : ℕ) → ReadsFrom c y x → Contains row (get_or ranks y 0)
  pub sound : (r : ℕ) → Contains row r → (y : ℕ) × ReadsFrom c y x × (r ≡ get_or ranks y 0)

rank_row : (c : Netlist) (ranks : List ℕ) (table : List (List ℕ)) (x : ℕ) (row : List ℕ) → IsTable c table
    → AreGateRanks c ranks (get_or table x []) row → IsRankRow c ranks x row
rank_row c ranks table x row is h = record {
  complete = λ y reads.
      let l = y - c.inputs in
      let on = gate_on c y x reads in
      let gate = reads.is_gate in
      let at : driven_net c l ≡ y = omega (arith, gate) in
      subst (λ (m : ℕ). Contains row (get_or ranks m 0)) at (h.complete l (is.complete x l (inl on)) on.is_gate);
  sound = λ r there.
      let found = h.sound r there in
      let l = found.0 in
      let gate = found.2 in
      elim (is.sound x l found.1) [
        | inl on ↦ (driven_net c l, gate_reads_from c l x on, found.3)
        | inr d ↦ let dff = d.is_dff in absurd (omega (arith, gate, dff))
      ];
}

-- the rows of the first n nets
pub record HasRankRows (c : Netlist) (ranks : List ℕ) (readers : List (List ℕ)) (n : ℕ) : Type 0 where
  pub count : length readers ≡ n
  pub rows : (x : ℕ) → x < n → IsRankRow c ranks x (get_or readers x [])

-- after the next net's row is added, one net more has its row
pub row_more : (c : Netlist) (ranks : List ℕ) (table readers new : List (List ℕ)) (n : ℕ) (row : List ℕ)
    → IsTable c table → AreGateRanks c ranks (get_or table n []) row → new ≡ readers ++ row ∷ []
    → HasRankRows c ranks readers n → HasRankRows c ranks new (n + 1)
row_more c ranks table readers new n row is gates more h =
    let count = h.count in
    subst (λ (rows : List (List ℕ)). HasRankRows c ranks rows (n + 1)) (sym more) (record {
      count = (let l = length_push readers row in omega (arith, l, count));
      rows = λ x less. elim (cases_lt x n) [
        | inl before ↦ subst (IsRankRow c ranks x)
            (sym (get_or_append_left readers (row ∷ []) [] x (omega (arith, before, count)))) (h.rows x before)
        | inr past ↦
            let at : n ≡ x = omega (arith, less, past) in
            subst (IsRankRow c ranks x) (sym (get_or_push readers row [] x (count ∙ at)))
            (subst (λ (y : ℕ). IsRankRow c ranks y row) at (rank_row c ranks table n row is gates))
      ];
    })

module _ (c : Netlist) (valid : IsCircuit c) (ranks : List ℕ) (readers : List (List ℕ))
    (h : HasRankRows c ranks readers (net_count c)) where
  net_known : (y x : ℕ) → ReadsFrom c y x → x < net_count c
  net_known y x reads =
      let gate = reads.is_gate in
      let known = valid.known (y - first_gate_net c) reads.pin (omega (arith, gate, reads.known)) reads.is_pin in
      omega (arith, known, reads.reads)

  reader_is : (x r : ℕ) → Contains (get_or readers x []) r → (y : ℕ) × ReadsFrom c y x × (r ≡ get_or ranks y 0)
  reader_is x r there = elim (cases_lt x (net_count c)) [
    | inl inside ↦ (h.rows x inside).sound r there
    | inr past ↦
        let count = h.count in
        absurd (no_items (get_or readers x []) r (get_or_past readers x [] (omega (arith, past, count))) there)
  ]

  -- rows of all nets are the circuit's readers, if ranks are below the number of nets and rise from a net to its
  -- readers
  pub readers_are : ((x : ℕ) → x < net_count c → get_or ranks x 0 < net_count c)
      → ((y x : ℕ) → ReadsFrom c y x → get_or ranks x 0 < get_or ranks y 0) → AreReaders c ranks readers
  readers_are small rises = record {
    count = h.count;
    complete = λ y x reads. (h.rows x (net_known y x reads)).complete y reads;
    later = λ x r there.
        let found = reader_is x r there in
        let less = rises found.0 x found.1 in
        omega (arith, less, found.2);
    within = λ x r there.
        let found = reader_is x r there in
        let less = small found.0 found.1.known in
        omega (arith, less, found.2);
  }
