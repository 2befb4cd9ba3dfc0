-- The readers of a net are followed one by one.
use Rattle.std.proofs.Common.{◌≡◌, ◌∙◌, ◌<◌, ◌≤◌, ◌+◌, ◌-◌, ◌⊎◌, ℕ, [], Bool, cond, length, get_or, refl, ap, subst, inl, inr, arith}
use Rattle.std.specs.List.{Contains}
use Rattle.std.proofs.lemmas.List.{get_or_default}
use Rattle.std.proofs.lemmas.Bool.{lt-ltb, le-ltb}
use Rattle.ht_net.specs.Circuit.Netlist.{gate_at, arg_at}
use Rattle.ht_events.specs.Ranks.{AreRanked}
use Rattle.ht_events.specs.Items.{ReadsNet, driven_net, frame_items}
use Rattle.ht_events.specs.FramePlans.{FramePlanState, IsOffsetTable, reader_offset}
use Rattle.ht_relevant.specs.declared.way.Way.TheVariants.{Readers}
use Rattle.ht_relevant.specs.Distances.{DistanceState, HasGrown, IsFollowed, number_of}
use Rattle.ht_relevant.specs.Offsets.{IsTaken}

module _ (p : FramePlanState) (ranked : AreRanked p.circuit (length p.circuit.dffs) p.order p.ranks) where
  -- the offset of a gate, and of a flip-flop
  pub gate_offset : (l : ℕ) → length p.circuit.dffs ≤ l → reader_offset p.circuit p.ranks l ≡ get_or p.ranks l 0
  gate_offset l high = ap (λ (b : Bool). cond b (length p.ranks + get_or p.ranks l 0) (get_or p.ranks l 0))
      (le-ltb l (length p.circuit.dffs) high)

  -- the offset of a flip-flop is its rank after all items of a frame
  pub dff_offset : (l : ℕ) → l < length p.circuit.dffs
      → reader_offset p.circuit p.ranks l ≡ frame_items p.circuit + get_or p.ranks l 0
  dff_offset l low =
      let count = ranked.rank_count in
      ap (λ (b : Bool). cond b (length p.ranks + get_or p.ranks l 0) (get_or p.ranks l 0))
      (lt-ltb l (length p.circuit.dffs) low) ∙ ap (λ (n : ℕ). n + get_or p.ranks l 0) count

  -- an item stands before the end of the frame after
  pub offset_small : (l : ℕ) → l < frame_items p.circuit
      → reader_offset p.circuit p.ranks l < frame_items p.circuit + frame_items p.circuit
  offset_small l known = elim (either l (length p.circuit.dffs)) [
    | inl low ↦ let e = dff_offset l low in let s = ranked.small l known in omega (arith, e, s)
    | inr high ↦ let e = gate_offset l high in let s = ranked.small l known in omega (arith, e, s)
  ] where
    either : (a b : ℕ) → (a < b) ⊎ (b ≤ a)
    either a b = grind arith

  -- a gate is followed
  pub gate_taken : (s : DistanceState) (offset : ℕ) → offset < frame_items p.circuit
      → number_of s (driven_net p.circuit (get_or p.order offset 0)) ≤ s.distance → IsTaken p s offset
  gate_taken s offset less put = record {
    gate = λ l high known e.
        let o = gate_offset l high in
        let back : get_or p.order offset 0 ≡ l = ap (λ (r : ℕ). get_or p.order r 0) (e ∙ o) ∙ ranked.back l known in
        subst (λ (m : ℕ). number_of s (driven_net p.circuit m) ≤ s.distance) back put;
    dff = λ l low e. let o = dff_offset l low in absurd (omega (arith, less, e, o));
  }

  -- a flip-flop is followed
  pub dff_taken : (s : DistanceState) (offset rank : ℕ) → frame_items p.circuit ≤ offset
      → rank ≡ offset - frame_items p.circuit
      → Contains s.next (driven_net p.circuit (get_or p.order rank 0)) → IsTaken p s offset
  dff_taken s offset rank past is put = record {
    gate = λ l high known e.
        let o = gate_offset l high in
        let small = ranked.small l known in
        absurd (omega (arith, past, e, o, small));
    dff = λ l low e.
        let o = dff_offset l low in
        let same : rank ≡ get_or p.ranks l 0 = omega (arith, is, e, o) in
        let back : get_or p.order rank 0 ≡ l =
        ap (λ (r : ℕ). get_or p.order r 0) same ∙ ranked.back l (omega (arith, low)) in
        subst (λ (m : ℕ). Contains s.next (driven_net p.circuit m)) back put;
  }

-- what was followed is
pub taken_grown : (p : FramePlanState) (s t : DistanceState) (offset : ℕ) → HasGrown s t → IsTaken p s offset
    → IsTaken p t offset
taken_grown p s t offset grown h = record {
  gate = λ l high known e.
      let a = h.gate l high known e in
      let b = grown.lower.lower (driven_net p.circuit l) in
      let d = grown.distance in
      omega (arith, a, b, d);
  dff = λ l low e. grown.later (driven_net p.circuit l) (h.dff l low e);
}

-- where all readers of a net are followed, it is
pub readers_followed : (p : FramePlanState) (s : DistanceState) (x : ℕ) → IsOffsetTable p.circuit p.ranks p.readers
    → ((k : ℕ) → k < length (get_or p.readers x []) → IsTaken p s (get_or (get_or p.readers x []) k 0))
    → IsFollowed p.circuit Readers s x
readers_followed p s x table all = record {
  within = λ y step.
      let l = length p.circuit.dffs + step.gate in
      let g = step.known in
      let same : step.gate ≡ l - length p.circuit.dffs = omega arith in
      let t = taken l (inl (record {
        pin = step.pin;
        is_gate = omega arith;
        known = omega (arith, g);
        is_pin = subst (λ (g : ℕ). step.pin < length (gate_at p.circuit g).args) same step.is_pin;
        reads = subst (λ (g : ℕ). arg_at p.circuit g step.pin ≡ x) same step.argument;
      })) in
      let at : driven_net p.circuit l ≡ y = (let o = step.output in omega (arith, o)) in
      subst (λ (n : ℕ). number_of s n ≤ s.distance) at (t.gate l (omega arith) (omega (arith, g)) refl);
  on = λ y step.
      let t = taken step.dff (inr (record { is_dff = step.known; reads = step.argument })) in
      subst (λ (n : ℕ). Contains s.next n) step.output (t.dff step.dff step.known refl);
} where
  taken : (l : ℕ) → ReadsNet p.circuit l x → IsTaken p s (reader_offset p.circuit p.ranks l)
  taken l reads =
      let row = get_or p.readers x [] in
      let found = table.complete x l reads in
      subst (IsTaken p s) (get_or_default row found.0 0 (reader_offset p.circuit p.ranks l) found.1 ∙ found.2)
      (all found.0 found.1)
