-- Rows of readers, one for each net, in one flat list.
use Rattle.std.specs.Prelude.{◌≡◌, ◌<◌, ◌≤◌, ◌+◌, ◌-◌, ℕ, List, length, get_or, map, take, drop}
use Rattle.ht_net.specs.Circuit.Netlist.{Netlist}
use Rattle.ht_net.specs.Circuit.Levels.{loads_of}
use Rattle.ht_events.specs.declared.readers.NetRow.{NetRow}

-- the row that stands where there is none
abbrev pub no_row : NetRow
no_row = record { start = 0; end = 0 }

-- the row of net x
abbrev pub row_of : List NetRow → ℕ → NetRow
row_of rows x = get_or rows x no_row

-- the readers that a row has in the flat list
abbrev pub readers_in : List ℕ → NetRow → List ℕ
readers_in items row = take (row.end - row.start) (drop row.start items)

-- the readers of each net
abbrev pub lists_of : List NetRow → List ℕ → List (List ℕ)
lists_of rows items = map (readers_in items) rows

-- each row ends after it begins, and within the flat list
abbrev pub AreNetRows : List NetRow → List ℕ → Type 0
AreNetRows rows items = (x : ℕ) → x < length rows → ((row_of rows x).start ≤ (row_of rows x).end)
    × ((row_of rows x).end ≤ length items)

-- The first n nets have an empty row each. The loads of each net fit before the next row, and within this room.
pub record AreEmptyRows (c : Netlist) (n : ℕ) (rows : List NetRow) (room : ℕ) : Type 0 where
  pub count : length rows ≡ n
  pub empty : (x : ℕ) → (row_of rows x).start ≡ (row_of rows x).end
  pub apart : (x y : ℕ) → x < y → y < length rows → (row_of rows x).end + loads_of c x
      ≤ (row_of rows y).start
  pub within : (x : ℕ) → x < length rows → (row_of rows x).end + loads_of c x ≤ room
