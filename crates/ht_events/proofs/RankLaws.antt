-- Sources, and then gates in an order of theirs: each once, and a gate after what it reads.
use Rattle.std.proofs.Common.{◌≡◌, ◌≢◌, ◌<◌, ◌≤◌, ◌+◌, ◌-◌, ◌∙◌, ℕ, List, length, get_or, sym, ap, arith, inl, inr}
use Rattle.ht_net.specs.Circuit.Netlist.{Netlist, first_gate_net, gate_at, arg_at, IsOrder}
use Rattle.ht_net.proofs.FrameLaws.{le_or_lt}
use Rattle.ht_events.specs.Ranks.{ReadsNumber, AreRanked}

module _ (c : Netlist) (sources : ℕ) (gates order : List ℕ) (sorted : IsOrder c gates)
    (few : sources ≤ first_gate_net c) (count : length order ≡ sources + length c.gates)
    (low_are : (x : ℕ) → x < sources → get_or order x 0 ≡ x)
    (gates_are : (k : ℕ) → k < length c.gates → get_or order (sources + k) 0
    ≡ sources + get_or gates k 0)
  where
    gate_is : (r : ℕ) → sources ≤ r → r < sources + length c.gates → get_or order r 0
        ≡ sources + get_or gates (r - sources) 0
    gate_is r low h =
        let at : sources + (r - sources) ≡ r = omega (arith, low) in
        ap (λ (i : ℕ). get_or order i 0) (sym at) ∙ gates_are (r - sources) (omega (arith, low, h))

    gate_known : (k : ℕ) → k < length c.gates → get_or gates k 0 < length c.gates
    gate_known k h = let n = sorted.each.once in sorted.each.within k (omega (arith, h, n))

    -- each member of the order is a source or a gate
    pub known : (r : ℕ) → r < sources + length c.gates → get_or order r 0 < sources + length c.gates
    known r h = elim (le_or_lt (sources) r) [
      | inl low ↦ let e = gate_is r low h in let k = gate_known (r - sources) (omega (arith, low, h))
          in omega (arith, e, k)
      | inr less ↦ let e = low_are r less in omega (arith, e, h)
    ]

    -- the order has no source and no gate twice
    pub distinct : (q r : ℕ) → q < r → r < sources + length c.gates → get_or order q 0 ≢ get_or order r 0
    distinct q r less h same = elim (le_or_lt (sources) r) [
      | inl low ↦
          let e = gate_is r low h in
          elim (le_or_lt (sources) q) [
            | inl low2 ↦
                let d = gate_is q low2 (omega (arith, less, h)) in
                let n = sorted.each.once in
                sorted.each.distinct (q - sources) (r - sources) 0 (omega (arith, low2, less))
                (omega (arith, low, h, n)) (omega (arith, d, e, same))
            | inr less2 ↦ let d = low_are q less2 in absurd (omega (arith, d, e, same, less2))
          ]
      | inr less2 ↦ let e = low_are r less2 in let d = low_are q (omega (arith, less, less2))
          in absurd (omega (arith, d, e, same, less))
    ]

    covers : (x : ℕ) → x < sources + length c.gates → (r : ℕ) × (r < sources + length c.gates) × (get_or order r 0 ≡ x)
    covers x h = elim (le_or_lt (sources) x) [
      | inl low ↦
          let g = sorted.each.covers (x - sources) (omega (arith, low, h)) in
          let n = sorted.each.once in
          let inside = g.1 in
          let is = g.2 in
          let e = gates_are g.0 (omega (arith, inside, n)) in
          (sources + g.0, omega (arith, inside, n), omega (arith, e, is, low))
      | inr less ↦ (x, h, low_are x less)
    ]

    module _ (ranks : List ℕ) (long : length ranks ≡ length order)
        (ranked : (r : ℕ) → r < length order → get_or ranks (get_or order r 0) 0 ≡ r) where
      forth : (r : ℕ) → r < sources + length c.gates → get_or ranks (get_or order r 0) 0 ≡ r
      forth r h = ranked r (omega (arith, h, count))

      rank_of : (x r : ℕ) → r < sources + length c.gates → get_or order r 0 ≡ x → get_or ranks x 0 ≡ r
      rank_of x r h is = ap (λ (k : ℕ). get_or ranks k 0) (sym is) ∙ forth r h

      small : (x : ℕ) → x < sources + length c.gates → get_or ranks x 0 < sources + length c.gates
      small x h = let e = covers x h in let k = e.1 in let r = rank_of x e.0 k e.2 in omega (arith, r, k)

      back : (x : ℕ) → x < sources + length c.gates → get_or order (get_or ranks x 0) 0 ≡ x
      back x h = let e = covers x h in ap (λ (k : ℕ). get_or order k 0) (rank_of x e.0 e.1 e.2) ∙ e.2

      rises : (g m : ℕ) → ReadsNumber c sources g m → get_or ranks m 0 < get_or ranks (sources + g) 0
      rises g m on =
          let y = sources + g in
          let r = get_or ranks y 0 in
          let is_gate = on.is_gate in
          let rs = small y (omega (arith, is_gate)) in
          let ry = back y (omega (arith, is_gate)) in
          elim (le_or_lt sources r) [
            | inr less ↦ let e = low_are r less in absurd (omega (arith, e, ry, less))
            | inl low ↦
                let k = r - sources in
                let e = gate_is r low rs in
                let same : g ≡ get_or gates k 0 = omega (arith, e, ry) in
                let n = sorted.each.once in
                let pin : on.pin < length (gate_at c (get_or gates k 0)).args =
                (let h = on.is_pin in let q = ap (λ (h : ℕ). length (gate_at c h).args) same in omega (arith, h, q)) in
                let reads : arg_at c (get_or gates k 0) on.pin + sources ≡ first_gate_net c + m =
                ap (λ (h : ℕ). arg_at c h on.pin + sources) (sym same) ∙ on.reads in
                elim (sorted.earlier k on.pin (omega (arith, low, rs, n)) pin) [
                  | inl source ↦
                      let less : m < sources = omega (arith, source, reads, few) in
                      let rm = rank_of m m (omega (arith, less)) (low_are m less) in
                      omega (arith, rm, less, low)
                  | inr gate ↦
                      let j = gate.0 in
                      let jk = gate.1 in
                      let at = gate.2 in
                      let dj = gates_are j (omega (arith, jk, low, rs)) in
                      let rm = rank_of m (sources + j) (omega (arith, jk, low, rs)) (omega (arith, dj, at, reads)) in
                      omega (arith, rm, jk, low)
                ]
          ]

      -- sources and then sorted gates are ranked by the list that has each one's index in the order
      pub are_ranked : AreRanked c sources order ranks
      are_ranked = record {
        order_count = count;
        rank_count = long ∙ count;
        known = known;
        small = small;
        back = back;
        first = λ x h. rank_of x x (omega (arith, h)) (low_are x h);
        forth = forth;
        rises = rises;
      }
