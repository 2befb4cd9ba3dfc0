-- What is said of the faults of a circuit over which vectors were simulated.
use Rattle.std.specs.Prelude.{◌≡◌, ℕ, List, Bool, Option}
use Rattle.ht_tern.specs.declared.tern.Tern.{Tern}
use Rattle.ht_net.specs.declared.place.Place.{Place}
use Rattle.ht_net.specs.Circuit.Netlist.{Netlist}
use Rattle.ht_proofs.specs.Detections.{AreFirstDetections, AreWithin}
use Rattle.ht_texts.specs.declared.said.Said.{Said}
use Rattle.ht_texts.specs.Verdicts.{saids_of}

-- What is said of the faults is what the vectors show first, from the start.
pub record SayDetections (c : Netlist) (representatives : List ℕ) (start : List Tern)
    (list : List (List Bool))
    (saids : List Said) : Type 0 where
  pub places : List (Option Place)
  pub detections : AreFirstDetections c representatives start list places
  pub within : AreWithin c list places
  pub saids_are : saids ≡ saids_of places
