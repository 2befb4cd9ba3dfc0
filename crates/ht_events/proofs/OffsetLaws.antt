-- Readers by how far they stand from the first position of a frame.
use Rattle.std.proofs.Common.{◌≡◌, ◌<◌, ◌≤◌, ◌+◌, ◌-◌, ◌*◌, inl, inr, ℕ, suc, List, [], ◌∷◌, ◌++◌, length, get_or, map, take, drop, refl, sym, ◌∙◌, ap, arith, subst}
use Rattle.std.specs.List.{Contains}
use Rattle.std.proofs.Math.Nat.{suc-mul, mul-le-mul_right}
use Rattle.std.proofs.Math.ListN.{get_or-map}
use Rattle.std.proofs.lemmas.Bool.{cases_lt, cond_below, cond_above}
use Rattle.std.proofs.lemmas.List.{length-map, get_or_default, take-map, drop-map, take_all, drop_all, append-nil}
use Rattle.ht_net.specs.Circuit.Netlist.{Netlist}
use Rattle.ht_events.specs.declared.readers.NetRow.{NetRow}
use Rattle.ht_events.specs.NetRows.{lists_of, readers_in, AreNetRows}
use Rattle.ht_events.specs.Items.{frame_items, item_at, item_count, reader_frame}
use Rattle.ht_events.specs.FramePlans.{IsTable, IsOffsetTable, offset_among, reader_offset}
use Rattle.ht_events.specs.Plans.{PlanState, AreDistinctRanks, position_at}
use Rattle.ht_events.proofs.ItemLaws.{item_frame, item_local, item_inside}

contains_mapped : (f : ℕ → ℕ) (xs : List ℕ) (x : ℕ) → Contains xs x → Contains (map f xs) (f x)
contains_mapped f xs x c =
    let less = c.1 in
    let long = length-map xs f in
    (c.0, omega (arith, less, long), get_or-map f xs c.0 x ∙ ap f c.2)

mapped_from : (f : ℕ → ℕ) (xs : List ℕ) (y : ℕ) → Contains (map f xs) y → (x : ℕ) × Contains xs x × (y ≡ f x)
mapped_from f xs y c =
    let k = c.0 in
    let less = c.1 in
    let long = length-map xs f in
    let inside : k < length xs = omega (arith, less, long) in
    let same : get_or (map f xs) k (f 0) ≡ get_or (map f xs) k y = get_or_default (map f xs) k (f 0) y less in (
      get_or xs k 0,
      (k, inside, get_or_default xs k (get_or xs k 0) 0 inside),
      sym c.2 ∙ (sym same ∙ get_or-map f xs k 0),
    )

-- a map of the flat list maps each row
pub lists_mapped : (f : ℕ → ℕ) (rows : List NetRow) (items : List ℕ)
    → lists_of rows (map f items) ≡ map (map f) (lists_of rows items)
lists_mapped f [] items = refl
lists_mapped f (r ∷ rows) items =
    let one : readers_in (map f items) r ≡ map f (readers_in items r) =
    ap (take (r.end - r.start)) (drop-map f r.start items) ∙ take-map f (r.end - r.start) (drop r.start items) in
    λ i. one i ∷ lists_mapped f rows items i

-- where the flat list was mapped, each row is mapped
pub placed_lists : (f : ℕ → ℕ) (rows : List NetRow) (items placed : List ℕ) → placed ≡ map f items
    → lists_of rows placed ≡ map (map f) (lists_of rows items)
placed_lists f rows items placed is = ap (lists_of rows) is ∙ lists_mapped f rows items

-- rows that end within the flat list end within a map of it
pub placed_rows : (f : ℕ → ℕ) (rows : List NetRow) (items placed : List ℕ) → placed ≡ map f items
    → AreNetRows rows items → AreNetRows rows placed
placed_rows f rows items placed is h = λ x known.
    let e = ap (λ (l : List ℕ). length l) is in
    let long = length-map items f in
    let fits = (h x known).1 in
    ((h x known).0, omega (arith, e, long, fits))

-- Placed readers are read net by net as their items are.
pub ruleset placed_rules = (placed_lists, placed_rows)

-- the loop has mapped all items
pub mapped_all : (f : ℕ → ℕ) (xs ys : List ℕ) (i : ℕ) → length xs ≤ i → ys ≡ map f (take i xs) ++ drop i xs
    → ys ≡ map f xs
mapped_all f xs ys i past is =
    is ∙ ((λ j. map f (take_all i xs past j) ++ drop_all i xs past j) ∙ append-nil (map f xs))

-- once all items are mapped, the rows have the offsets
pub placed_table : (c : Netlist) (ranks : List ℕ) (rows placed : List (List ℕ)) (dffs : ℕ) → dffs ≡ length c.dffs
    → IsTable c rows → placed ≡ map (map (offset_among ranks dffs)) rows → IsOffsetTable c ranks placed
placed_table c ranks rows placed dffs many t is =
    let f : ℕ → ℕ = reader_offset c ranks in
    let same : placed ≡ map (map f) rows = is ∙ ap (λ (d : ℕ). map (map (offset_among ranks d)) rows) many in
    subst (IsOffsetTable c ranks) (sym same) (record {
      count = length-map rows (map f) ∙ t.count;
      sound = λ x o h.
          let found = mapped_from f (get_or rows x []) o (subst (λ (l : List ℕ). Contains l o)
          (get_or-map (map f) rows x []) h)
          in (found.0, t.sound x found.0 found.1, found.2);
      complete = λ x l reads. subst (λ (s : List ℕ). Contains s (f l)) (sym (get_or-map (map f) rows x []))
          (contains_mapped f (get_or rows x []) l (t.complete x l reads));
    })

-- the item of a frame that reads a net of frame f
abbrev pub reader_at : PlanState → ℕ → ℕ → ℕ
reader_at p f local = item_at p.circuit (reader_frame p.circuit f local) local

abbrev pub IsThere : PlanState → ℕ → ℕ → Type 0
IsThere p f local = reader_frame p.circuit f local < p.frames

module _ (p : PlanState) (f l : ℕ) (placed : AreDistinctRanks p) (known : l < frame_items p.circuit) where
  abbrev n : ℕ
  n = frame_items p.circuit

  abbrev rank : ℕ
  rank = get_or p.ranks l 0

  -- the frame of the reader and its rank there give what the offset does
  split : reader_frame p.circuit f l * n + rank ≡ f * n + reader_offset p.circuit p.ranks l
  split = elim (cases_lt l (length p.circuit.dffs)) [
    | inl dff ↦
        let frame = cond_below l (length p.circuit.dffs) (f + 1) f dff in
        let offset = cond_below l (length p.circuit.dffs) (length p.ranks + rank) rank dff in
        let m : (f + 1) * n + rank ≡ reader_frame p.circuit f l * n + rank = ap (λ (k : ℕ). k * n + rank) frame in
        let s : suc f * n ≡ f * n + n = suc-mul f n in
        let count = placed.count in
        omega (arith, m, s, offset, count)
    | inr gate ↦
        let frame = cond_above l (length p.circuit.dffs) (f + 1) f f gate refl in
        let offset = cond_above l (length p.circuit.dffs) (length p.ranks + rank) rank rank gate refl in
        let m : f * n + rank ≡ reader_frame p.circuit f l * n + rank = ap (λ (k : ℕ). k * n + rank) frame in
        omega (arith, m, offset)
  ]

  -- a reader stands at its offset from the first position of the net's frame
  pub reader_position : position_at p (reader_at p f l) ≡ f * n + reader_offset p.circuit p.ranks l
  reader_position = (λ i. item_frame p.circuit (reader_frame p.circuit f l) l known i * n
      + get_or p.ranks (item_local p.circuit (reader_frame p.circuit f l) l known i) 0) ∙ split

  -- a reader whose frame is there has a position among those of all frames
  pub there_inside : IsThere p f l → f * n + reader_offset p.circuit p.ranks l < item_count p.circuit p.frames
  there_inside there =
      let s = split in
      let i : reader_frame p.circuit f l * n + rank < item_count p.circuit p.frames =
      item_inside p.circuit p.frames (reader_frame p.circuit f l) rank there (placed.small l known) in
      omega (arith, s, i)

  -- a reader whose position is among those of all frames is in a frame that is there
  pub inside_there : f * n + reader_offset p.circuit p.ranks l < item_count p.circuit p.frames → IsThere p f l
  inside_there less = elim (cases_lt (reader_frame p.circuit f l) p.frames) [
    | inl there ↦ there
    | inr past ↦
        let s = split in
        let m : p.frames * n ≤ reader_frame p.circuit f l * n = mul-le-mul_right n past in
        absurd (omega (arith, s, m, less))
  ]

  -- a reader whose frame is there is among the items of all frames
  pub there_known : IsThere p f l → reader_at p f l < item_count p.circuit p.frames
  there_known there = item_inside p.circuit p.frames (reader_frame p.circuit f l) l there known

  -- an item's offset is below the number of items of two frames
  pub offset_small : reader_offset p.circuit p.ranks l < n + n
  offset_small =
      let count = placed.count in
      let small = placed.small l known in
      elim (cases_lt l (length p.circuit.dffs)) [
        | inl dff ↦
            let offset = cond_below l (length p.circuit.dffs) (length p.ranks + rank) rank dff in
            omega (arith, offset, count, small)
        | inr gate ↦
            let offset = cond_above l (length p.circuit.dffs) (length p.ranks + rank) rank rank gate refl in
            omega (arith, offset, small)
      ]
