-- A family by its rows: the sets of the flip-flops that have more than the pair of the start.
use Rattle.std.specs.Prelude.{◌==◌, ◌<◌, ℕ, List, [], ◌∷◌, map, if◌then◌else◌, length, get_or}
use Rattle.std.specs.List.{All, range_with_len}
use Rattle.ht_tern.specs.declared.tern.Tern.{Tern}
use Rattle.ht_tern.specs.declared.tern.Tern.TheVariants.{Unk}
use Rattle.ht_pairs.specs.Pairs.{Pair, pair}
use Rattle.ht_net.specs.declared.fault.Fault.{Fault}
use Rattle.ht_net.specs.Circuit.Netlist.{Netlist}
use Rattle.ht_tree.specs.declared.family_row.FamilyRow.{FamilyRow}
use Rattle.ht_tree.specs.Record.Rising.{Rises}
use Rattle.ht_tree.specs.Record.ClosedFamilies.{Closes, Family}

-- the set of flip-flop j by the rows, the last of them for j, or this set where there is none
abbrev pub row_set : List FamilyRow → ℕ → List Pair → List Pair
row_set [] j set = set
row_set (row ∷ rows) j set = row_set rows j (if j == row.dff then row.set else set)

-- the pair of flip-flop j in a start, alone
abbrev pub start_set : List Tern → ℕ → List Pair
start_set start j = pair (get_or start j Unk) (get_or start j Unk) ∷ []

-- the family of a start and rows: a flip-flop without a row has the pair of the start alone
abbrev pub family_of : List Tern → List FamilyRow → Family
family_of start rows = map (λ j. row_set rows j (start_set start j)) (range_with_len 0 (length start))

-- the flip-flops of rows
abbrev pub dffs_of : List FamilyRow → List ℕ
dffs_of rows = map (λ (row : FamilyRow). row.dff) rows

-- Rows refute a fault from a start: they rise, they are of the circuit's flip-flops, and their family closes.
pub record ClosesByRows (c : Netlist) (fault : Fault) (start : List Tern) (rows : List FamilyRow) : Type 0 where
  pub rises : Rises (dffs_of rows)
  pub known : All (λ row. row.dff < length c.dffs) rows
  pub closes : Closes c fault start (family_of start rows)
