-- How one flat list of items stands for rows: each row ends where the next begins.
use Rattle.std.specs.Prelude.{◌≡◌, ℕ, List, [], ◌∷◌, ◌-◌, ◌≤◌, length, take, drop}
use Rattle.ht_items.specs.declared.flat_rows.FlatRows.TheInside.{Inside}

-- the rows of a flat list that end at these indices, the first of which begins at `start`
abbrev pub rows_from : {T : Type 0} → ℕ → List ℕ → List T → List (List T)
rows_from start [] items = []
rows_from start (end ∷ ends) items = take (end - start) (drop start items)
    ∷ rows_from end ends items

-- the ends rise, and the last is where the items end
abbrev pub AreEnds : {T : Type 0} → ℕ → List ℕ → List T → Type 0
AreEnds start [] items = start ≡ length items
AreEnds start (end ∷ ends) items = (start ≤ end) × (end ≤ length items) × AreEnds end ends items

-- the fields as rows
abbrev pub flat_rows : {T : Type 0} → Inside T → List (List T)
flat_rows a = rows_from 0 a.ends.items a.items.items
