-- The least family that closes, and where a search for it begins.
use Rattle.std.specs.Prelude.{List, [], ◌∷◌, map}
use Rattle.ht_tern.specs.declared.tern.Tern.{Tern}
use Rattle.ht_pairs.specs.Pairs.{pair}
use Rattle.ht_net.specs.declared.fault.Fault.{Fault}
use Rattle.ht_net.specs.Circuit.Netlist.{Netlist}
use Rattle.ht_tree.specs.Record.ClosedFamilies.{Closes, Family, IncludesEach}

-- The family closes, and lies within every family that does.
pub record IsLeastClosing (c : Netlist) (fault : Fault) (start : List Tern) (family : Family) : Type 0 where
  pub closes : Closes c fault start family
  pub within : (other : Family) → Closes c fault start other → IncludesEach other family

-- the family of a start alone: each flip-flop has the pair that it starts with
abbrev pub start_family : List Tern → Family
start_family start = map (λ v. pair v v ∷ []) start
