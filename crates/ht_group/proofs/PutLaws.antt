-- Differences are put into the latches of a lane.
use Rattle.std.specs.Prelude.{set, unwrap_or}
use Rattle.std.proofs.Common.{◌≡◌, ◌≢◌, ◌<◌, ◌≤◌, ◌+◌, ◌-◌, ◌∙◌, ◌&&◌, ℕ, List, ◌∷◌, Bool, true, false, length, get_or, take, drop, cond, eqb, ap, sym, refl, arith, Option, Some, inl, inr}
use Rattle.std.proofs.lemmas.Bool.Decides.{eqb_tells}
use Rattle.std.proofs.lemmas.List.{ext_get_or, get_or-take, get_or-drop, length-map, length-drop, length-take-le, drop_all, drop_more, get_or-set_other, get_or-set_same, length-set}
use Rattle.std.proofs.lemmas.Bool.{cases_Bool, eq-eqb, ne_eqb}
use Rattle.std.proofs.lemmas.List.FromFn.{get_or-map-range_with_len, length-map-range_with_len}
use Rattle.ht_tern.specs.declared.tern.Tern.{Tern}
use Rattle.ht_tern.specs.declared.tern.Tern.TheVariants.{Unk}
use Rattle.ht_lanes.specs.Lanes.{Lanes, lane}
use Rattle.ht_group.specs.declared.diffs.Diff.{Diff}
use Rattle.ht_group.specs.Differences.{held, value_but, with_differences}
use Rattle.ht_net.specs.Circuit.Netlist.{Netlist, first_gate_net, net_count}
use Rattle.ht_group.specs.LaneRules.{in_lane, lane_env}
use Rattle.ht_group.specs.Overlays.{OverlayView}
use Rattle.ht_group.specs.LatchWords.{HasDifferences}
use Rattle.ht_events.specs.Schedules.{IsSchedule}
use Rattle.ht_events.specs.declared.schedule.Schedule.{Schedule}
use Rattle.ht_group.proofs.InLaneLaws.{same_lane}
use Rattle.ht_group.proofs.PinLaws.{by_none}
use Rattle.ht_group.proofs.StuckLaws.{eqb_shift}

by_choice : (b : Bool) (v g : Tern) (h : Option Tern) → cond (b && true) v (unwrap_or h g)
    ≡ unwrap_or (cond b (Some v) h)
    g
by_choice true v g h = refl
by_choice false v g h = refl

-- Lane k has the differences from i on, and the nets of their latches are pending.
pub record ArePut (c : Netlist) (ranks : List ℕ) (k : ℕ) (entries : List Diff) (old : OverlayView) (before : List Bool)
    (words : List Lanes) (pending : List Bool) (i : ℕ) : Type 0 where
  pub count : length words ≡ first_gate_net c
  pub marks : length pending ≡ net_count c
  pub inputs : (x : ℕ) → x < c.inputs → lane_env k words x ≡ lane_env k old.words x
  pub put : (j : ℕ) → c.inputs + j < first_gate_net c → lane_env k words (c.inputs + j)
      ≡ value_but (drop c.inputs old.good) (drop i entries) j
  pub others : (x n : ℕ) → n < 64 → n ≢ k → lane_env n words x ≡ lane_env n old.words x
  pub more : (r : ℕ) → get_or before r false ≡ true → get_or pending r false ≡ true
  pub quiet : (x n : ℕ) → n < 64 → get_or pending (get_or ranks x 0) false ≡ false
      → lane_env n words x ≡ lane_env n old.words x

-- before the first
pub none_put : (c : Netlist) (ranks : List ℕ) (k : ℕ) (entries : List Diff) (old : OverlayView) (before : List Bool)
    → length old.words ≡ first_gate_net c → length before ≡ net_count c → in_lane k old.words ≡ old.good
    → ArePut c ranks k entries old before old.words before (length entries)
none_put c ranks k entries old before count marks plain = record {
  count = count;
  marks = marks;
  inputs = λ x below. refl;
  put = λ j inside.
      ap (λ (l : List Tern). get_or l (c.inputs + j) Unk) plain
      ∙ (sym (get_or-drop c.inputs old.good j Unk)
      ∙ ap (λ (l : List Diff). value_but (drop c.inputs old.good) l j)
      (sym (drop_all (length entries) entries (omega arith))));
  others = λ x n below ne. refl;
  more = λ r is. is;
  quiet = λ x n below idle. refl;
}

-- the marks with one more
marked_more : (pending : List Bool) (r q : ℕ) → r < length pending → get_or pending q false ≡ true
    → get_or (set pending r true) q false ≡ true
marked_more pending r q inside is = elim (eqb_tells q r) [
  | inl p ↦ ap (λ (n : ℕ). get_or (set pending r true) n false) p.1 ∙ get_or-set_same pending r true false inside
  | inr p ↦ get_or-set_other pending r q true false p.1 ∙ is
]

module _ (c : Netlist) (ranks : List ℕ) (k : ℕ) (entries : List Diff) (old : OverlayView) (before : List Bool)
    (words new : List Lanes) (pending pending' : List Bool) (i : ℕ) (d : Diff) (some : 0 < i)
    (most : i ≤ length entries)
    (small : k < 64) (latch : (get_or entries (i - 1) d).latch < length c.dffs)
    (rank : get_or ranks (c.inputs + (get_or entries (i - 1) d).latch) 0 < net_count c)
    (count : length new ≡ first_gate_net c)
    (written : (y n : ℕ) → n < 64 → lane_env n new y
    ≡ cond (eqb y (c.inputs + (get_or entries (i - 1) d).latch) && eqb n k) (get_or entries (i - 1) d).value
    (lane_env n words y))
    (marked : pending' ≡ set pending (get_or ranks (c.inputs + (get_or entries (i - 1) d).latch) 0) true)
    (h : ArePut c ranks k entries old before words pending i) where
  abbrev e : Diff
  e = get_or entries (i - 1) d

  abbrev x : ℕ
  x = c.inputs + (get_or entries (i - 1) d).latch

  other_word : (y n : ℕ) → n < 64 → y ≢ x → lane_env n new y ≡ lane_env n words y
  other_word y n below ne = written y n below
      ∙ ap (λ b. cond (b && eqb n k) e.value (lane_env n words y)) (ne_eqb y x ne)

  -- one more difference
  pub put_more : ArePut c ranks k entries old before new pending' (i - 1)
  put_more = record {
    count = count;
    marks = ap (λ (l : List Bool). length l) marked ∙ (length-set pending (get_or ranks x 0) true ∙ h.marks);
    inputs = λ y below. other_word y k small (omega (arith, below)) ∙ h.inputs y below;
    put = λ j at.
        let back : i - 1 + 1 ≡ i = omega (arith, some) in
        let rest : drop (i - 1) entries ≡ e ∷ drop i entries =
        drop_more entries (i - 1) d (omega (arith, some, most)) ∙ ap (λ (n : ℕ). e ∷ drop n entries) back in
        written (c.inputs + j) k small
        ∙ ((λ p. cond (eqb_shift c.inputs j e.latch p && eq-eqb k k refl p) e.value (h.put j at p))
        ∙ (by_choice (eqb j e.latch) e.value (get_or (drop c.inputs old.good) j Unk) (held (drop i entries) j)
        ∙ ap (λ (l : List Diff). value_but (drop c.inputs old.good) l j) (sym rest)));
    others = λ y n below ne. written y n below
        ∙ (ap (λ b. cond (eqb y x && b) e.value (lane_env n words y)) (ne_eqb n k ne)
        ∙ (by_none (eqb y x) e.value (lane_env n words y) ∙ h.others y n below ne));
    more = λ r is. ap (λ (l : List Bool). get_or l r false) marked
        ∙ marked_more pending (get_or ranks x 0) r (let m = h.marks in omega (arith, rank, m)) (h.more r is);
    quiet = λ y n below idle. elim (eqb_tells y x) [
      | inl p ↦
          let there : get_or pending' (get_or ranks x 0) false ≡ true =
          ap (λ (l : List Bool). get_or l (get_or ranks x 0) false) marked
          ∙ get_or-set_same pending (get_or ranks x 0) true false (let m = h.marks in omega (arith, rank, m)) in
          let bad : true ≡ false = sym there ∙ (ap (λ (z : ℕ). get_or pending' (get_or ranks z 0) false) (sym p.1)
          ∙ idle)
          in cc
      | inr p ↦ other_word y n below p.1 ∙ h.quiet y n below (not_marked y idle)
    ];
  } where
    not_marked : (y : ℕ) → get_or pending' (get_or ranks y 0) false ≡ false → get_or pending (get_or ranks y 0) false
        ≡ false
    not_marked y idle = elim (cases_Bool (get_or pending (get_or ranks y 0) false)) [
      | inl set_y ↦
          let bad : true ≡ false = sym (ap (λ (l : List Bool). get_or l (get_or ranks y 0) false) marked
          ∙ marked_more pending (get_or ranks x 0) (get_or ranks y 0) (let m = h.marks in omega (arith, rank, m)) set_y)
          ∙ idle in cc
      | inr free ↦ free
    ]

-- after the last
pub all_put : (c : Netlist) (s : Schedule) (k : ℕ) (entries : List Diff) (old : OverlayView) (before : List Bool)
    (words : List Lanes) (pending : List Bool) (i : ℕ) → IsSchedule c s → i ≡ 0 → k < 64 → length old.words
    ≡ first_gate_net c
    → in_lane k old.words ≡ old.good → ArePut c s.ranks.items k entries old before words pending i
    → HasDifferences c s k entries old before words pending
all_put c s k entries old before words pending i is end small count plain h =
    let f = λ (w : Lanes). lane w k in
    let n = c.inputs in
    let v = value_but (drop c.inputs old.good) entries in
    let long : length old.good ≡ first_gate_net c =
    sym (ap (λ (l : List Tern). length l) plain) ∙ (length-map old.words f ∙ count) in
    let a = length-drop n (in_lane k words) in
    let b = length-map words f in
    let g = length-drop n old.good in
    let r = length-map-range_with_len v 0 (length (drop n old.good)) in
    let ta = length-take-le n (in_lane k words) (let hc = h.count in omega (arith, b, hc)) in
    let tb = length-take-le n old.good (omega (arith, long)) in
    record {
      count = h.count;
      marks = h.marks;
      inputs = ext_get_or Unk (take n (in_lane k words)) (take n old.good) (ta ∙ sym tb)
          (λ x inside.
          let at : x < c.inputs = omega (arith, inside, ta) in
          get_or-take n (in_lane k words) x Unk at
          ∙ (h.inputs x at
          ∙ (ap (λ (l : List Tern). get_or l x Unk) plain ∙ sym (get_or-take n old.good x Unk at))));
      latches = ext_get_or Unk (drop n (in_lane k words)) (with_differences (drop n old.good) entries)
          (let hc = h.count in omega (arith, a, b, g, r, hc, long))
          (λ j inside.
          let hc = h.count in
          let at : c.inputs + j < first_gate_net c = omega (arith, inside, a, b, hc) in
          get_or-drop n (in_lane k words) j Unk
          ∙ (h.put j at
          ∙ (ap (λ (m : ℕ). value_but (drop c.inputs old.good) (drop m entries) j) end
          ∙ sym (get_or-map-range_with_len v 0 (length (drop n old.good)) j j Unk (omega (arith, at, g, long))
          (omega arith)))));
      others = λ m below ne. same_lane m words old.words (h.count ∙ sym count) (λ x at. h.others x m below ne);
      more = h.more;
      quiet = λ m q below inside idle. h.quiet (get_or s.order.items q 0) m below
          (ap (λ (p : ℕ). get_or pending p false) (is.ranks.forth q inside) ∙ idle);
    }
