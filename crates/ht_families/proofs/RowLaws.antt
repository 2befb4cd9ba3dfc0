-- Families by rows.
use Rattle.std.proofs.Common.{◌≡◌, ◌<◌, ◌≤◌, ◌+◌, ℕ, suc, zero, List, [], ◌∷◌, map, set, length, get_or, refl, ◌∙◌, ap, arith}
use Rattle.std.specs.List.{range_with_len}
use Rattle.std.proofs.lemmas.List.{length-map}
use Rattle.std.proofs.lemmas.List.FromFn.{length-map-range_with_len}
use Rattle.ht_tern.specs.declared.tern.Tern.{Tern}
use Rattle.ht_pairs.specs.Pairs.{Pair}
use Rattle.ht_tree.specs.Record.Rising.{Rises}
use Rattle.ht_tree.specs.declared.family_row.FamilyRow.{FamilyRow}
use Rattle.ht_families.specs.Families.{start_family}
use Rattle.ht_tree.specs.Record.FamilyRows.{dffs_of, family_of, row_set, start_set}
use Rattle.ht_families.proofs.LeastLaws.{start_at, start_long}

-- a list with these sets is the family
pub listed : (F : ℕ → List Pair) (a n : ℕ) (xs : List (List Pair)) → length xs ≡ n
    → ((j : ℕ) → j < n → get_or xs j [] ≡ F (a + j)) → xs ≡ map F (range_with_len a n)
listed F a zero [] e h = refl
listed F a zero (x ∷ xs) e h = absurd (omega arith)
listed F a (suc n) [] e h = absurd (omega arith)
listed F a (suc n) (x ∷ xs) e h =
    let at : a + 0 ≡ a = omega arith in
    let first : x ≡ F a = h 0 (omega arith) ∙ ap F at in
    let rest : xs ≡ map F (range_with_len (a + 1) n) =
    listed F (a + 1) n xs (omega arith) (λ j l. let to : a + suc j ≡ a + 1 + j = omega arith in
    h (suc j) (omega arith) ∙ ap F to) in
    (λ k. first k ∷ rest k)

-- the family of a start, with the sets of rows written into it, is the family of the start and the rows
pub family_is : (start : List Tern) (rows : List FamilyRow) (before family : List (List Pair))
    → before ≡ start_family start → length family ≡ length before
    → ((j : ℕ) → get_or family j [] ≡ row_set rows j (get_or before j [])) → family ≡ family_of start rows
family_is start rows before family is long all =
    let n = start_long start in
    let m = ap length is in
    listed (λ j. row_set rows j (start_set start j)) 0 (length start) family (omega (arith, long, n, m))
    (λ j l.
    let to : j ≡ 0 + j = omega arith in
    all j ∙ (ap (λ (b : List (List Pair)). row_set rows j (get_or b j [])) is
    ∙ (ap (row_set rows j) (start_at start j l) ∙ ap (λ (i : ℕ). row_set rows i (start_set start i)) to)))

-- the family of a start and rows has a set for each value of the start
pub family_long : (start : List Tern) (rows : List FamilyRow) → length (family_of start rows) ≡ length start
family_long start rows = length-map-range_with_len (λ j. row_set rows j (start_set start j)) 0 (length start)

-- rows that rise, by their flip-flops
pub dff_at : (rows : List FamilyRow) (k : ℕ) (d : FamilyRow) → k < length rows
    → get_or (dffs_of rows) k 0 ≡ (get_or rows k d).dff
dff_at [] k d l = absurd (omega arith)
dff_at (r ∷ rows) zero d l = refl
dff_at (r ∷ rows) (suc k) d l = dff_at rows k d (omega arith)

abbrev pub RiseTo : List FamilyRow → ℕ → Type 0
RiseTo rows n = (k : ℕ) (d : FamilyRow) → k < n → k + 1 < length rows
    → (get_or rows k d).dff < (get_or rows (k + 1) d).dff

-- rows rise where the flip-flop of each is below that of the next
pub rise_by : (rows : List FamilyRow) (n : ℕ) → length rows ≤ n → RiseTo rows n → Rises (dffs_of rows)
rise_by rows n all h = record {
  next = λ i l.
      let d : FamilyRow = record { dff = 0; set = [] } in
      let m = length-map rows (λ (row : FamilyRow). row.dff) in
      let a = dff_at rows i d (omega (arith, l, m)) in
      let b = dff_at rows (i + 1) d (omega (arith, l, m)) in
      let c = h i d (omega (arith, l, m, all)) (omega (arith, l, m)) in
      omega (arith, a, b, c);
}

-- where rows rise, the flip-flop of each is below that of the next
pub rises_at : (rows : List FamilyRow) (i : ℕ) (d : FamilyRow) → Rises (dffs_of rows) → i + 1 < length rows
    → (get_or rows i d).dff < (get_or rows (i + 1) d).dff
rises_at rows i d h l =
    let m = length-map rows (λ (row : FamilyRow). row.dff) in
    let a = dff_at rows i d (omega (arith, l)) in
    let b = dff_at rows (i + 1) d (omega (arith, l)) in
    let c = h.next i (omega (arith, l, m)) in
    omega (arith, a, b, c)
