-- What a refutation of any kind by states of both machines means.
use Rattle.std.specs.Prelude.{ℕ, List, Bool}
use Rattle.ht_tern.specs.declared.tern.Tern.{Tern}
use Rattle.ht_net.specs.declared.fault.Fault.{Fault}
use Rattle.ht_net.specs.Circuit.Netlist.{Netlist}
use Rattle.ht_net.specs.Detect.Detection.{Detects, DetectsFrom}

-- No list of any length detects the fault, from the start or from all-unknown. It says nothing of a chip's start
-- states: from some of them the two machines may differ.
pub record IsUndetectable (c : Netlist) (fault : Fault) (start : List Tern) : Type 0 where
  pub from_start : (list : List (List Bool)) (t o : ℕ) → ¬ DetectsFrom c fault start list t o
  pub from_unknown : (list : List (List Bool)) (t o : ℕ) → ¬ Detects c fault list t o
