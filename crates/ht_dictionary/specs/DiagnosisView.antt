-- What a diagnosis says: the first contradiction of each machine with an observation, or none where it is consistent.
use Rattle.std.specs.Prelude.{List, Option}
use Rattle.ht_net.specs.declared.place.Place.{Place}

-- a diagnosis: where each machine first contradicts what was observed
pub record DiagnosisView : Type 0 where
  -- of the good machine
  pub good : Option Place
  -- of each fault, by its number from 0; what stands at a fault that isn't its own representative has no meaning
  pub places : List (Option Place)
