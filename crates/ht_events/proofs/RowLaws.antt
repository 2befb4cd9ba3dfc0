-- Rows of readers, as one more reader of a net is added.
use Rattle.std.proofs.Common.{◌≡◌, ◌≢◌, ◌<◌, ◌≤◌, ◌+◌, ◌^◌, ◌⊎◌, inl, inr, ℕ, List, [], ◌∷◌, ◌++◌, length, get_or, set, refl, sym, ◌∙◌, ap, arith, subst}
use Rattle.std.proofs.lemmas.Bool.{cases_lt}
use Rattle.std.proofs.lemmas.Bool.Decides.{eqb_tells}
use Rattle.std.proofs.lemmas.List.{get_or-set_same, get_or-set_other, get_or_past, get_or_push, get_or_append_left, length-set, length_push}
use Rattle.ht_net.specs.Circuit.Netlist.{Netlist}
use Rattle.ht_net.specs.Circuit.Levels.{loads_of}
use Rattle.ht_events.specs.declared.readers.NetRow.{NetRow}
use Rattle.ht_events.specs.NetRows.{no_row, row_of, AreEmptyRows}

-- item l is among the readers of net x
pub record HasReader (rows : List NetRow) (items : List ℕ) (x l : ℕ) : Type 0 where
  pub place : ℕ
  pub from_on : (row_of rows x).start ≤ place
  pub below : place < (row_of rows x).end
  pub at : get_or items place 0 ≡ l

-- each row has room for so many more readers before the next begins
pub record HasRowRoom (rows : List NetRow) (items : List ℕ) (room : ℕ → ℕ) : Type 0 where
  pub rises : (x : ℕ) → (row_of rows x).start ≤ (row_of rows x).end
  pub apart : (x y : ℕ) → x < y → y < length rows → (row_of rows x).end + room x ≤ (row_of rows y).start
  pub within : (x : ℕ) → x < length rows → (row_of rows x).end + room x ≤ length items

-- rows that have room for readers have room for fewer
pub room_kept : (rows : List NetRow) (items : List ℕ) (room left : ℕ → ℕ) → ((x : ℕ) → left x ≤ room x)
    → HasRowRoom rows items room → HasRowRoom rows items left
room_kept rows items room left less h = record {
  rises = h.rises;
  apart = λ x y before known. let a = h.apart x y before known in let l = less x in omega (arith, a, l);
  within = λ x known. let a = h.within x known in let l = less x in omega (arith, a, l);
}

-- the rows once net n has one more reader, and the flat list
abbrev pub rows_with : List NetRow → ℕ → List NetRow
rows_with rows n = set rows n (record { start = (row_of rows n).start; end = (row_of rows n).end + 1 })

abbrev pub items_with : List NetRow → List ℕ → ℕ → ℕ → List ℕ
items_with rows items n local = set items (row_of rows n).end local

-- a list that is shorter than 2^48 still is after a member is written
pub few_still : (items : List ℕ) (i local : ℕ) (more : List ℕ) → more ≡ set items i local → length items < 2 ^ 48
    → length more < 2 ^ 48
few_still items i local more e few =
    let same = ap (λ (l : List ℕ). length l) e in
    let long = length-set items i local in
    omega (arith, same, long, few)

-- the readers once net n has one more
pub record IsMore (Has New : ℕ → ℕ → Type 0) (n local : ℕ) : Type 0 where
  pub keeps : (x l : ℕ) → Has x l → New x l
  pub has : New n local
  pub only : (x l : ℕ) → New x l → Has x l ⊎ ((x ≡ n) × (l ≡ local))

module _ (rows : List NetRow) (items : List ℕ) (n local : ℕ) (inside : n < length rows) (room : ℕ → ℕ)
    (h : HasRowRoom rows items room) (some : 0 < room n) where
  abbrev more_rows : List NetRow
  more_rows = rows_with rows n

  abbrev more_items : List ℕ
  more_items = items_with rows items n local

  this : row_of more_rows n ≡ record { start = (row_of rows n).start; end = (row_of rows n).end + 1 }
  this = get_or-set_same rows n (record { start = (row_of rows n).start; end = (row_of rows n).end + 1 }) no_row inside

  this_start : (row_of more_rows n).start ≡ (row_of rows n).start
  this_start = ap (λ (r : NetRow). r.start) this

  this_end : (row_of more_rows n).end ≡ (row_of rows n).end + 1
  this_end = ap (λ (r : NetRow). r.end) this

  other : (x : ℕ) → x ≢ n → row_of more_rows x ≡ row_of rows x
  other x ne =
      get_or-set_other rows n x (record { start = (row_of rows n).start; end = (row_of rows n).end + 1 }) no_row ne

  other_start : (x : ℕ) → x ≢ n → (row_of more_rows x).start ≡ (row_of rows x).start
  other_start x ne = ap (λ (r : NetRow). r.start) (other x ne)

  other_end : (x : ℕ) → x ≢ n → (row_of more_rows x).end ≡ (row_of rows x).end
  other_end x ne = ap (λ (r : NetRow). r.end) (other x ne)

  -- no other row has the place that is written
  elsewhere : (x k : ℕ) → x ≢ n → (row_of rows x).start ≤ k → k < (row_of rows x).end → k ≢ (row_of rows n).end
  elsewhere x k ne from below e = elim (cases_lt x n) [
    | inl less ↦
        let a = h.apart x n less inside in
        let r = h.rises n in
        omega (arith, a, r, below, e)
    | inr more ↦ elim (cases_lt x (length rows)) [
      | inl known ↦ let a = h.apart n x (omega (arith, more, ne)) known in omega (arith, a, some, e, from)
      | inr past ↦
          let d = ap (λ (r : NetRow). r.end) (get_or_past rows x no_row past) in
          omega (arith, d, below)
    ]
  ]

  written : get_or more_items (row_of rows n).end 0 ≡ local
  written = get_or-set_same items (row_of rows n).end local 0 (let w = h.within n inside in omega (arith, w, some))

  unwritten : (k : ℕ) → k ≢ (row_of rows n).end → get_or more_items k 0 ≡ get_or items k 0
  unwritten k ne = get_or-set_other items (row_of rows n).end k local 0 ne

  -- a row that has room ends before the flat list does
  pub room_there : (row_of rows n).end < length items
  room_there = let w = h.within n inside in omega (arith, w, some)

  reader_has : HasReader more_rows more_items n local
  reader_has = record {
    place = (row_of rows n).end;
    from_on = (let s = this_start in let r = h.rises n in omega (arith, s, r));
    below = (let e = this_end in omega (arith, e));
    at = written;
  }

  kept_here : (l : ℕ) → HasReader rows items n l → HasReader more_rows more_items n l
  kept_here l r = record {
    place = r.place;
    from_on = (let s = this_start in let f = r.from_on in omega (arith, s, f));
    below = (let e = this_end in let b = r.below in omega (arith, e, b));
    at = unwritten r.place (λ e. let b = r.below in omega (arith, e, b)) ∙ r.at;
  }

  kept_there : (x l : ℕ) → x ≢ n → HasReader rows items x l → HasReader more_rows more_items x l
  kept_there x l ne r = record {
    place = r.place;
    from_on = (let s = other_start x ne in let f = r.from_on in omega (arith, s, f));
    below = (let e = other_end x ne in let b = r.below in omega (arith, e, b));
    at = unwritten r.place (elsewhere x r.place ne r.from_on r.below) ∙ r.at;
  }

  reader_keeps : (x l : ℕ) → HasReader rows items x l → HasReader more_rows more_items x l
  reader_keeps x l r = elim (eqb_tells x n) [
    | inl p ↦ subst (λ (y : ℕ). HasReader more_rows more_items y l) (sym p.1)
        (kept_here l (subst (λ (y : ℕ). HasReader rows items y l) p.1 r))
    | inr p ↦ kept_there x l p.1 r
  ]

  only_here : (l : ℕ) → HasReader more_rows more_items n l → HasReader rows items n l ⊎ (l ≡ local)
  only_here l r = elim (eqb_tells r.place (row_of rows n).end) [
    | inl p ↦ inr (sym r.at ∙ (ap (λ (k : ℕ). get_or more_items k 0) p.1 ∙ written))
    | inr p ↦ inl (record {
      place = r.place;
      from_on = (let s = this_start in let f = r.from_on in omega (arith, s, f));
      below = (let e = this_end in let b = r.below in let ne = p.1 in omega (arith, e, b, ne));
      at = sym (unwritten r.place p.1) ∙ r.at;
    })
  ]

  only_there : (x l : ℕ) → x ≢ n → HasReader more_rows more_items x l → HasReader rows items x l
  only_there x l ne r =
      let from : (row_of rows x).start ≤ r.place = (let s = other_start x ne in let f = r.from_on
      in omega (arith, s, f)) in
      let below : r.place < (row_of rows x).end = (let e = other_end x ne in let b = r.below in omega (arith, e, b)) in
      record {
        place = r.place;
        from_on = from;
        below = below;
        at = sym (unwritten r.place (elsewhere x r.place ne from below)) ∙ r.at;
      }

  reader_only : (x l : ℕ) → HasReader more_rows more_items x l
      → HasReader rows items x l ⊎ ((x ≡ n) × (l ≡ local))
  reader_only x l r = elim (eqb_tells x n) [
    | inl p ↦ elim (only_here l (subst (λ (y : ℕ). HasReader more_rows more_items y l) p.1 r)) [
      | inl old ↦ inl (subst (λ (y : ℕ). HasReader rows items y l) (sym p.1) old)
      | inr e ↦ inr (p.1, e)
    ]
    | inr p ↦ inl (only_there x l p.1 r)
  ]

  -- after an item is written at the end of a net's row, that net has it as a reader beside those there were
  pub reader_more : IsMore (HasReader rows items) (HasReader more_rows more_items) n local
  reader_more = record { keeps = reader_keeps; has = reader_has; only = reader_only }

  starts : (x : ℕ) → (row_of more_rows x).start ≡ (row_of rows x).start
  starts x = elim (eqb_tells x n) [
    | inl p ↦ subst (λ (y : ℕ). (row_of more_rows y).start ≡ (row_of rows y).start) (sym p.1) this_start
    | inr p ↦ other_start x p.1
  ]

  module _ (left : ℕ → ℕ) (one : left n + 1 ≤ room n) (rest : (x : ℕ) → left x ≤ room x) where
    ends : (x : ℕ) → ((row_of rows x).end ≤ (row_of more_rows x).end)
        × ((row_of more_rows x).end + left x ≤ (row_of rows x).end + room x)
    ends x = elim (eqb_tells x n) [
      | inl p ↦ subst (λ (y : ℕ). ((row_of rows y).end ≤ (row_of more_rows y).end)
          × ((row_of more_rows y).end + left y ≤ (row_of rows y).end + room y)) (sym p.1)
          (let e = this_end in (omega (arith, e), omega (arith, e, one)))
      | inr p ↦ let e = other_end x p.1 in let r = rest x in (omega (arith, e), omega (arith, e, r))
    ]

    -- after an item is written at the end of a net's row, there is room for one reader less of that net
    pub room_left : HasRowRoom more_rows more_items left
    room_left = record {
      rises = λ x. let s = starts x in let e = (ends x).0 in let r = h.rises x in omega (arith, s, e, r);
      apart = λ x y before known.
          let same = length-set rows n (record { start = (row_of rows n).start; end = (row_of rows n).end + 1 }) in
          let a = h.apart x y before (omega (arith, same, known)) in
          let s = starts y in
          let e = (ends x).1 in
          omega (arith, a, s, e);
      within = λ x known.
          let same = length-set rows n (record { start = (row_of rows n).start; end = (row_of rows n).end + 1 }) in
          let long = length-set items (row_of rows n).end local in
          let a = h.within x (omega (arith, same, known)) in
          let e = (ends x).1 in
          omega (arith, a, e, long);
    }

-- an empty row for one more net
module _ (c : Netlist) (n : ℕ) (rows : List NetRow) (room : ℕ) (h : AreEmptyRows c n rows room) where
  abbrev next : NetRow
  next = record { start = room; end = room }

  row_before : (x : ℕ) → x < length rows → row_of (rows ++ next ∷ []) x ≡ row_of rows x
  row_before x known = get_or_append_left rows (next ∷ []) no_row x known

  row_last : (x : ℕ) → length rows ≡ x → row_of (rows ++ next ∷ []) x ≡ next
  row_last x e = get_or_push rows next no_row x e

  long : length (rows ++ next ∷ []) ≡ length rows + 1
  long = length_push rows next

  is_empty : (x : ℕ) → (row_of (rows ++ next ∷ []) x).start ≡ (row_of (rows ++ next ∷ []) x).end
  is_empty x = elim (cases_lt x (length rows)) [
    | inl known ↦ subst (λ (r : NetRow). r.start ≡ r.end) (sym (row_before x known)) (h.empty x)
    | inr more ↦ elim (cases_lt x (length (rows ++ next ∷ []))) [
      | inl last ↦
          let l = long in
          subst (λ (r : NetRow). r.start ≡ r.end) (sym (row_last x (omega (arith, l, last, more)))) refl
      | inr past ↦ subst (λ (r : NetRow). r.start ≡ r.end) (sym (get_or_past (rows ++ next ∷ []) x no_row past)) refl
    ]
  ]

  fits : (x : ℕ) → x < length (rows ++ next ∷ [])
      → (row_of (rows ++ next ∷ []) x).end + loads_of c x ≤ room + loads_of c n
  fits x known = elim (cases_lt x (length rows)) [
    | inl before ↦
        let e = ap (λ (r : NetRow). r.end) (row_before x before) in
        let w = h.within x before in
        omega (arith, e, w)
    | inr more ↦
        let count = h.count in
        let last : x ≡ n = (let l = long in omega (arith, l, known, more, count)) in
        let e = ap (λ (r : NetRow). r.end) (row_last x (omega (arith, last, count))) in
        let same = ap (loads_of c) last in
        omega (arith, e, same)
  ]

  between : (x y : ℕ) → x < y → y < length (rows ++ next ∷ [])
      → (row_of (rows ++ next ∷ []) x).end + loads_of c x ≤ (row_of (rows ++ next ∷ []) y).start
  between x y before known =
      let l = long in
      let first : x < length rows = omega (arith, before, known, l) in
      let e = ap (λ (r : NetRow). r.end) (row_before x first) in
      elim (cases_lt y (length rows)) [
        | inl there ↦
            let s = ap (λ (r : NetRow). r.start) (row_before y there) in
            let a = h.apart x y before there in
            omega (arith, e, s, a)
        | inr more ↦
            let s = ap (λ (r : NetRow). r.start) (row_last y (omega (arith, known, l, more))) in
            let w = h.within x first in
            omega (arith, e, s, w)
      ]

  -- after an empty row is added for the next net, one net more has its row, and the room holds its loads
  pub one_more_row : AreEmptyRows c (n + 1) (rows ++ next ∷ []) (room + loads_of c n)
  one_more_row = record {
    count = (let l = long in let count = h.count in omega (arith, l, count));
    empty = is_empty;
    apart = between;
    within = fits;
  }
