-- A search for families as contracts see it, and what it owes for a family that it finds.
use Rattle.std.specs.Prelude.{◌≡◌, ℕ, List}
use Rattle.std.specs.List.{All}
use Rattle.ht_tern.specs.declared.tern.Tern.{Tern}
use Rattle.ht_pairs.specs.Pairs.{set_of}
use Rattle.ht_net.specs.declared.fault.Fault.{Fault}
use Rattle.ht_net.specs.Circuit.Netlist.{Netlist}
use Rattle.ht_tree.specs.declared.family_row.FamilyRow.{FamilyRow}
use Rattle.ht_tree.specs.Record.FamilyRows.{ClosesByRows}

-- The circuit and the start, and the work so far.
pub record SearchView : Type 0 where
  pub circuit : Netlist
  pub start : List Tern
  pub work : ℕ

-- Rows that refute a fault from the start, and can be written as an entry: each set lists its members in order.
pub record IsFamilyOf (c : Netlist) (start : List Tern) (fault : Fault) (rows : List FamilyRow)
    : Type 0 where
  pub closes : ClosesByRows c fault start rows
  pub listed : All (λ (row : FamilyRow). row.set ≡ set_of row.set) rows
