-- Rows of a flat list.
use Rattle.std.proofs.Common.{◌∙◌, ◌≡◌, ◌≤◌, ◌<◌, ℕ, suc, zero, List, [], ◌∷◌, ◌++◌, ◌+◌, ◌-◌, length, length-append, length-drop, get_or, take, drop, refl, arith, ap}
use Rattle.std.proofs.lemmas.List.{take-append-le, drop-append-le}
use Rattle.std.proofs.Math.Seq.{take-length, drop-append_seam}
use Rattle.ht_items.specs.FlatRowsOf.{rows_from, AreEnds}

-- there is a row for each end
pub rows_count : {T : Type 0} → (start : ℕ) (ends : List ℕ) (items : List T)
    → length (rows_from start ends items) ≡ length ends
rows_count start [] items = refl
rows_count start (end ∷ ends) items = ap suc (rows_count end ends items)

-- row i stands between the end before it and its own
pub row_at : {T : Type 0} → (start : ℕ) (ends : List ℕ) (items : List T) (i : ℕ) → i < length ends
    → get_or (rows_from start ends items) i []
    ≡ take (get_or ends i 0 - get_or (start ∷ ends) i 0) (drop (get_or (start ∷ ends) i 0) items)
row_at start [] items i h = absurd (omega arith)
row_at start (end ∷ ends) items zero h = refl
row_at start (end ∷ ends) items (suc i) h = row_at end ends items i (omega arith)

-- a row's ends are in order, and within the items
pub row_within : {T : Type 0} → (start : ℕ) (ends : List ℕ) (items : List T) → AreEnds start ends items
    → (i : ℕ) → i < length ends
    → (get_or (start ∷ ends) i 0 ≤ get_or ends i 0) × (get_or ends i 0 ≤ length items)
row_within start [] items are i h = absurd (omega arith)
row_within start (end ∷ ends) items are zero h = (are.0, are.1)
row_within start (end ∷ ends) items are (suc i) h = row_within end ends items are.2 i (omega arith)

rows_push : {T : Type 0} → (start : ℕ) (ends : List ℕ) (items more : List T) → start ≤ length items
    → AreEnds start ends items
    → rows_from start (ends ++ (length items + length more) ∷ []) (items ++ more)
    ≡ rows_from start ends items ++ more ∷ []
rows_push {T} start [] items more low are =
    let size : length items + length more - start ≡ length more = omega (arith, are) in
    ap (λ (row : List T). row ∷ [])
    (ap (λ (n : ℕ). take n (drop start (items ++ more))) size
    ∙ (ap (λ (n : ℕ). take (length more) (drop n (items ++ more))) are
    ∙ (ap (λ (l : List T). take (length more) l) (drop-append_seam items more) ∙ take-length more)))
rows_push {T} start (end ∷ ends) items more low are =
    let n = length-drop start items in
    let front : take (end - start) (drop start (items ++ more)) ≡ take (end - start) (drop start items) =
    ap (λ (l : List T). take (end - start) l) (drop-append-le start items more low)
    ∙ take-append-le (end - start) (drop start items) more (omega (arith, n, are.1)) in
    let rest = rows_push end ends items more are.1 are.2 in
    (λ k. front k ∷ rest k)

ends_push : {T : Type 0} → (start : ℕ) (ends : List ℕ) (items more : List T) → AreEnds start ends items
    → AreEnds start (ends ++ (length items + length more) ∷ []) (items ++ more)
ends_push start [] items more are =
    let long = length-append items more in (omega (arith, are), omega (arith, long), omega (arith, long))
ends_push start (end ∷ ends) items more are =
    let long = length-append items more in
    (are.0, omega (arith, are.1, long), ends_push end ends items more are.2)

-- One more row: where it ends is added to the ends, and its items to the items.
pub record IsRowMore {T : Type 0} (ends : List ℕ) (items more : List T) (ends' : List ℕ) (items' : List T) : Type 0
  where
    pub end : ℕ
    pub is_end : end ≡ length items + length more
    pub ends_are : ends' ≡ ends ++ end ∷ []
    pub items_are : items' ≡ items ++ more

-- a row that is added becomes the last row, and the ends stay in order
pub row_more : {T : Type 0} → (ends : List ℕ) (items more : List T) (ends' : List ℕ) (items' : List T)
    → IsRowMore ends items more ends' items' → AreEnds 0 ends items
    → AreEnds 0 ends' items' × (rows_from 0 ends' items' ≡ rows_from 0 ends items ++ more ∷ [])
row_more ends items more ends' items' h are =
    rw (h.items_are, h.ends_are, h.is_end)
    (ends_push 0 ends items more are, rows_push 0 ends items more (omega arith) are)

-- an index of the rows is one of their ends
pub row_inside : {T : Type 0} → (ends : List ℕ) (items : List T) (rows : List (List T)) (i : ℕ)
    → rows_from 0 ends items ≡ rows → i < length rows → i < length ends
row_inside {T} ends items rows i are h =
    let n = rows_count 0 ends items in
    let m = ap (λ (l : List (List T)). length l) are in
    omega (arith, n, m, h)
