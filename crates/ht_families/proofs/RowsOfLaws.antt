-- The rows of a family.
use Rattle.std.proofs.Common.{◌≡◌, ◌≢◌, ◌<◌, ◌≤◌, ◌+◌, ◌==◌, ℕ, suc, zero, List, [], ◌∷◌, ◌++◌, length, get_or, refl, sym, ◌∙◌, ap, inl, inr, arith, subst, if◌then◌else◌}
use Rattle.std.specs.List.{All}
use Rattle.std.proofs.lemmas.Bool.Decides.{eqb_tells}
use Rattle.std.proofs.lemmas.List.{get_or_append_left, get_or_push, length_push, map-append}
use Rattle.ht_tern.specs.declared.tern.Tern.{Tern}
use Rattle.ht_tern.specs.declared.tern.Tern.TheVariants.{Unk}
use Rattle.std.proofs.lemmas.List.Elements.{All-append, All-cons, All-nil}
use Rattle.ht_pairs.specs.Pairs.{Pair, pair, set_of}
use Rattle.ht_net.proofs.FrameLaws.{le_or_lt}
use Rattle.ht_tree.specs.Record.Rising.{Rises}
use Rattle.ht_tree.specs.declared.family_row.FamilyRow.{FamilyRow}
use Rattle.ht_tree.specs.Record.FamilyRows.{dffs_of, family_of, row_set, start_set}
use Rattle.ht_families.proofs.RowLaws.{listed}

-- a number more, above all others
rises_more : (xs : List ℕ) (x : ℕ) → Rises xs → ((i : ℕ) → i < length xs → get_or xs i 0 < x) → Rises (xs ++ x ∷ [])
rises_more xs x h below = record {
  next = λ i l.
      let long = length_push xs x in
      let here : get_or (xs ++ x ∷ []) i 0 ≡ get_or xs i 0 =
      get_or_append_left xs (x ∷ []) 0 i (omega (arith, l, long)) in
      elim (le_or_lt (length xs) (i + 1)) [
        | inl past ↦
            let last : get_or (xs ++ x ∷ []) (i + 1) 0 ≡ x =
            get_or_push xs x 0 (i + 1) (omega (arith, l, long, past)) in
            let less = below i (omega (arith, l, long)) in
            omega (arith, here, last, less)
        | inr inside ↦
            let next : get_or (xs ++ x ∷ []) (i + 1) 0 ≡ get_or xs (i + 1) 0 =
            get_or_append_left xs (x ∷ []) 0 (i + 1) inside in
            let less = h.next i inside in
            omega (arith, here, next, less)
      ];
}

dffs_below : (rows : List FamilyRow) (n : ℕ) → All (λ row. row.dff < n) rows → (i : ℕ) → i < length (dffs_of rows)
    → get_or (dffs_of rows) i 0 < n
dffs_below [] n all i l = absurd (omega (arith, l))
dffs_below (r ∷ rows) n all zero l = all 0 r (omega arith)
dffs_below (r ∷ rows) n all (suc i) l =
    dffs_below rows n (λ k d m. all (suc k) d (omega (arith, m))) i (omega (arith, l))

no_row : (rows : List FamilyRow) (n k : ℕ) (set : List Pair) → All (λ row. row.dff < n) rows → n ≤ k
    → row_set rows k set ≡ set
no_row [] n k set all h = refl
no_row (r ∷ rows) n k set all h =
    let below : r.dff < n = all 0 r (omega arith) in
    ap (row_set rows k) (elim (eqb_tells k r.dff) [
      | inl e ↦ let d : k ≡ r.dff = e.1 in absurd (omega (arith, d, below, h))
      | inr e ↦ rw e.0 refl
    ])
    ∙ no_row rows n k set (λ i d l. all (suc i) d (omega (arith, l))) h

row_last : (rows : List FamilyRow) (r : FamilyRow) (k : ℕ) (set : List Pair)
    → row_set (rows ++ r ∷ []) k set ≡ (if k == r.dff then r.set else row_set rows k set)
row_last [] r k set = refl
row_last (q ∷ rows) r k set = row_last rows r k (if k == q.dff then q.set else set)

below_all : (rows : List FamilyRow) (r : FamilyRow) (n : ℕ) → All (λ row. row.dff < n) rows → r.dff < n + 1
    → All (λ row. row.dff < n + 1) (rows ++ r ∷ [])
below_all [] r n all h zero d l = h
below_all [] r n all h (suc k) d l = absurd (omega (arith, l))
below_all (q ∷ rows) r n all h zero d l = let b : q.dff < n = all 0 q (omega arith) in omega (arith, b)
below_all (q ∷ rows) r n all h (suc k) d l =
    below_all rows r n (λ i e m. all (suc i) e (omega (arith, m))) h k d (omega (arith, l))

-- The set of a row is not the pair of the start alone, has a member, and lists its members in order.
pub record IsOwnRow (start : List Tern) (row : FamilyRow) : Type 0 where
  pub more : row.set ≢ start_set start row.dff
  pub listed : row.set ≡ set_of row.set
  pub some : 0 < length row.set

-- The rows of the flip-flops below j.
pub record AreRows (start : List Tern) (family : List (List Pair)) (rows : List FamilyRow) (j : ℕ) : Type 0 where
  pub below : All (λ row. row.dff < j) rows
  pub rises : Rises (dffs_of rows)
  pub sets : (k : ℕ) → k < j → row_set rows k (start_set start k) ≡ get_or family k []
  pub own : All (IsOwnRow start) rows

-- the rows of the flip-flops below j are those below j + 1 where flip-flop j has only the pair of its start
pub skipped : (start : List Tern) (family : List (List Pair)) (rows : List FamilyRow) (j : ℕ)
    → AreRows start family rows j → get_or family j [] ≡ start_set start j → AreRows start family rows (j + 1)
skipped start family rows j h same = record {
  below = λ k d l. let b = h.below k d l in omega (arith, b);
  rises = h.rises;
  sets = λ k l. elim (eqb_tells k j) [
    | inl e ↦
        subst (λ (i : ℕ). row_set rows i (start_set start i) ≡ get_or family i []) (sym e.1)
        (no_row rows j j (start_set start j) h.below (omega arith) ∙ sym same)
    | inr e ↦ let ne = e.1 in h.sets k (omega (arith, l, ne))
  ];
  own = h.own;
}

-- the rows of the flip-flops below j, and one more with the set of flip-flop j, are those below j + 1
pub pushed : (start : List Tern) (family : List (List Pair)) (rows : List FamilyRow) (j : ℕ) (r : FamilyRow)
    → AreRows start family rows j → r.dff ≡ j → r.set ≡ get_or family j [] → IsOwnRow start r
    → AreRows start family (rows ++ r ∷ []) (j + 1)
pushed start family rows j r h at is own = record {
  below = below_all rows r j h.below (omega (arith, at));
  rises = subst Rises (sym (map-append (λ (row : FamilyRow). row.dff) rows (r ∷ [])))
      (rises_more (dffs_of rows) r.dff h.rises
      (λ k l. let b = dffs_below rows j h.below k l in omega (arith, b, at)));
  sets = λ k l. row_last rows r k (start_set start k) ∙ elim (eqb_tells k r.dff) [
    | inl e ↦ rw e.0 (is ∙ ap (λ (i : ℕ). get_or family i []) (sym (e.1 ∙ at)))
    | inr e ↦ let ne = e.1 in rw e.0 (h.sets k (omega (arith, l, ne, at)))
  ];
  own = All-append (IsOwnRow start) rows (r ∷ []) h.own (All-cons (IsOwnRow start) r [] own (All-nil (IsOwnRow start)));
}

-- the rows of all flip-flops of a family give that family back
pub ended : (start : List Tern) (family : List (List Pair)) (rows : List FamilyRow) (j : ℕ)
    → AreRows start family rows j → length family ≤ j → length start ≡ length family
    → family_of start rows ≡ family
ended start family rows j h all long =
    sym (listed (λ j. row_set rows j (start_set start j)) 0 (length start) family (sym long)
    (λ k l. let to : k ≡ 0 + k = omega arith in
    sym (h.sets k (omega (arith, l, long, all))) ∙ ap (λ (i : ℕ). row_set rows i (start_set start i)) to))

any_default : (xs : List Tern) (j : ℕ) (d e : Tern) → j < length xs → get_or xs j d ≡ get_or xs j e
any_default [] j d e l = absurd (omega (arith, l))
any_default (x ∷ xs) zero d e l = refl
any_default (x ∷ xs) (suc j) d e l = any_default xs j d e (omega (arith, l))

-- the pair of the start alone, as it is read at any default
pub start_read : (start : List Tern) (j : ℕ) (d : Tern) (set : List Pair) → j < length start
    → set ≡ pair (get_or start j d) (get_or start j d) ∷ [] → set ≡ start_set start j
start_read start j d set l is =
    let e = any_default start j d Unk l in is ∙ (λ i. pair (e i) (e i) ∷ [])
