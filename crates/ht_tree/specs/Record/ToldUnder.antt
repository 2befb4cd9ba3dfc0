-- Told frames under clauses: the two machines differ for certain, from a good state that meets every clause.
use Rattle.std.specs.Prelude.{◌≡◌, ℕ, List, true}
use Rattle.std.specs.List.{list_all}
use Rattle.ht_net.specs.declared.fault.Fault.{Fault}
use Rattle.ht_net.specs.Circuit.Netlist.{Netlist}
use Rattle.ht_tree.specs.declared.told.Told.{Told}
use Rattle.ht_tree.specs.Record.ToldChains.{Tells, told_path}
use Rattle.ht_tree.specs.declared.clause.Literal.{Literal}
use Rattle.ht_tree.specs.Clause.Clauses.{path_meets}

-- A told frame under clauses: its decisions meet each of them.
pub record TellsUnder (c : Netlist) (fault : Fault) (clauses : List (List Literal)) (z : List ℕ) (told : Told) : Type 0
  where
    pub tells : Tells c fault z told
    pub met : list_all (path_meets c (told_path told)) clauses ≡ true
