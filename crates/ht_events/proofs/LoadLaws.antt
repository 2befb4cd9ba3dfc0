-- The readers of a net become pending one by one.
use Rattle.std.proofs.Common.{◌≡◌, ◌≢◌, ◌<◌, ◌≤◌, ◌+◌, ◌*◌, ◌⊎◌, inl, inr, ℕ, Bool, true, false, List, [], length, get_or, set, refl, sym, ◌∙◌, ap, arith, subst}
use Rattle.std.proofs.lemmas.Bool.Decides.{eqb_tells}
use Rattle.std.proofs.lemmas.Grind.{get_or-set_at}
use Rattle.std.proofs.lemmas.List.{get_or_default, get_or-set_other}
use Rattle.std.proofs.lemmas.List.Elements.{Contains-get_or}
use Rattle.ht_events.specs.Items.{frame_items, item_count, ReadsNet, IsReader}
use Rattle.ht_events.specs.FramePlans.{IsOffsetTable, reader_offset}
use Rattle.ht_events.specs.Plans.{PlanState, AreDistinctRanks, position_at}
use Rattle.ht_events.specs.Pending.{IsPending}
use Rattle.ht_events.proofs.ItemLaws.{reads_known}
use Rattle.ht_events.proofs.OffsetLaws.{IsThere, reader_at, reader_position, offset_small, there_inside, inside_there, there_known}

-- the offset of reader k of net x
abbrev pub offset_at : PlanState → ℕ → ℕ → ℕ
offset_at p x k = get_or (get_or p.readers x []) k 0

-- an offset in a net's row is below the number of items of two frames
pub offset_few : (p : PlanState) (f x i : ℕ) → AreDistinctRanks p → IsOffsetTable p.circuit p.ranks p.readers
    → i < length (get_or p.readers x []) → offset_at p x i < frame_items p.circuit + frame_items p.circuit
offset_few p f x i placed table inside =
    let found = table.sound x (offset_at p x i) (Contains-get_or (get_or p.readers x []) i 0 inside) in
    let e = found.2 in
    let small = offset_small p f found.0 placed (reads_known p.circuit found.0 x found.1) in
    omega (arith, e, small)

-- an item is pending under these marks
abbrev pub IsPendingUnder : PlanState → List Bool → ℕ → Type 0
IsPendingUnder p marks y = IsPending (record { plan = p; marks = marks }) y

-- the first i readers of the net are pending, beside what was pending
pub record IsTouched (p : PlanState) (old new : List Bool) (f x i : ℕ) : Type 0 where
  pub more : (y : ℕ) → IsPendingUnder p old y → IsPendingUnder p new y
  pub done : (k l : ℕ) → k < i → offset_at p x k ≡ reader_offset p.circuit p.ranks l → ReadsNet p.circuit l x
      → IsThere p f l → IsPendingUnder p new (reader_at p f l)
  pub only : (y : ℕ) → y < item_count p.circuit p.frames → IsPendingUnder p new y → IsPendingUnder p old y
      ⊎ IsReader p.circuit p.frames f x y

module _ (p : PlanState) (old now : List Bool) (f x i position : ℕ) (placed : AreDistinctRanks p)
    (is : position ≡ f * frame_items p.circuit + offset_at p x i) (h : IsTouched p old now f x i) where
  -- the position of an item with this offset
  stands : (k l : ℕ) → k ≡ i → offset_at p x k ≡ reader_offset p.circuit p.ranks l → ReadsNet p.circuit l x
      → position_at p (reader_at p f l) ≡ position
  stands k l at e reads =
      let same : offset_at p x i ≡ reader_offset p.circuit p.ranks l = ap (offset_at p x) (sym at) ∙ e in
      let s = reader_position p f l placed (reads_known p.circuit l x reads) in
      omega (arith, s, same, is)

  -- the next reader stands past all items
  pub touched_past : item_count p.circuit p.frames ≤ position → IsTouched p old now f x (i + 1)
  touched_past past = record {
    more = h.more;
    done = λ k l less e reads there. elim (eqb_tells k i) [
      | inl at ↦
          let same : offset_at p x i ≡ reader_offset p.circuit p.ranks l = ap (offset_at p x) (sym at.1) ∙ e in
          let s = there_inside p f l placed (reads_known p.circuit l x reads) there in
          absurd (omega (arith, s, same, is, past))
      | inr at ↦ let ne : k ≢ i = at.1 in h.done k l (omega (arith, less, ne)) e reads there
    ];
    only = h.only;
  }

  module _ (new : List Bool) (table : IsOffsetTable p.circuit p.ranks p.readers)
      (inside : i < length (get_or p.readers x [])) (below : position < item_count p.circuit p.frames)
      (room : position < length now) (marks : new ≡ set now position true) where
    more_here : (y : ℕ) → IsPendingUnder p now y → IsPendingUnder p new y
    more_here y m = subst (λ (s : List Bool). IsPendingUnder p s y) (sym marks)
        (elim (eqb_tells (position_at p y) position) [
          | inl e ↦ get_or-set_at now position (position_at p y) true false e.1 room
          | inr e ↦ get_or-set_other now position (position_at p y) true false e.1 ∙ m
        ])

    has_here : (y : ℕ) → position_at p y ≡ position → IsPendingUnder p new y
    has_here y at = subst (λ (s : List Bool). IsPendingUnder p s y) (sym marks)
        (get_or-set_at now position (position_at p y) true false at room)

    -- what stands at the position reads the net
    reader_here : (y : ℕ) → y < item_count p.circuit p.frames → position_at p y ≡ position
        → IsReader p.circuit p.frames f x y
    reader_here y known at =
        let found = table.sound x (offset_at p x i) (Contains-get_or (get_or p.readers x []) i 0 inside) in
        let l = found.0 in
        let e = found.2 in
        let local = reads_known p.circuit l x found.1 in
        let there = inside_there p f l placed local (omega (arith, e, is, below)) in
        record {
          local = l;
          reads = found.1;
          inside = there;
          at = placed.apart y (reader_at p f l) known (there_known p f l placed local there)
              (at ∙ sym (stands i l refl e found.1));
        }

    -- the next reader is marked at its position
    pub touched_more : IsTouched p old new f x (i + 1)
    touched_more = record {
      more = λ y m. more_here y (h.more y m);
      done = λ k l less e reads there. elim (eqb_tells k i) [
        | inl at ↦ has_here (reader_at p f l) (stands k l at.1 e reads)
        | inr at ↦
            let ne : k ≢ i = at.1 in
            more_here (reader_at p f l) (h.done k l (omega (arith, less, ne)) e reads there)
      ];
      only = λ y known m. elim (eqb_tells (position_at p y) position) [
        | inl e ↦ inr (reader_here y known e.1)
        | inr e ↦ h.only y known (sym (get_or-set_other now position (position_at p y) true false e.1)
            ∙ subst (λ (s : List Bool). IsPendingUnder p s y) marks m)
      ];
    }

-- after all readers in a net's row were touched, each item that reads the net is pending
pub touched_all : (p : PlanState) (old new : List Bool) (f x n : ℕ) → IsOffsetTable p.circuit p.ranks p.readers → n
    ≡ length (get_or p.readers x []) → IsTouched p old new f x n
    → (y : ℕ) → IsReader p.circuit p.frames f x y → IsPendingUnder p new y
touched_all p old new f x n table long h y r =
    let row = get_or p.readers x [] in
    let o = reader_offset p.circuit p.ranks r.local in
    let found = table.complete x r.local r.reads in
    let k = found.0 in
    let less = found.1 in
    let at : offset_at p x k ≡ o = get_or_default row k 0 o less ∙ found.2 in
    subst (λ (z : ℕ). IsPendingUnder p new z) (sym r.at)
    (h.done k r.local (omega (arith, less, long)) at r.reads r.inside)
