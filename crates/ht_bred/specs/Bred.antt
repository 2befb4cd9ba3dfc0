-- Given vectors and then bred ones, and what all of them detect.
use Rattle.std.specs.Prelude.{◌≡◌, ◌≤◌, ◌++◌, ℕ, List, Bool, Option, length, is_some, filter}
use Rattle.ht_tern.specs.declared.tern.Tern.{Tern}
use Rattle.ht_net.specs.declared.place.Place.{Place}
use Rattle.ht_net.specs.Circuit.Netlist.{Netlist}
use Rattle.ht_faults.specs.Classes.{own_representatives}
use Rattle.ht_proofs.specs.Detections.{AreFirstDetections, AreWithin, place_at}
use Rattle.ht_bred.specs.declared.bred.Bred.{Bred}

-- the representatives that have a first detection, rising
abbrev pub detected_of : List ℕ → List (Option Place) → List ℕ
detected_of representatives places =
    filter (λ i. is_some (place_at places i)) (own_representatives representatives)

-- The given vectors and then at most so many others, each with a bit for each input; of each representative its first
-- detection over all of them, or none; and how many representatives have one.
pub record IsBred (c : Netlist) (representatives : List ℕ) (start : List Tern)
    (given : List (List Bool)) (most : ℕ) (bred : Bred) : Type 0 where
  pub inputs : bred.vectors.width ≡ c.inputs
  pub more : List (List Bool)
  pub added : bred.vectors.list ≡ given ++ more
  pub counted : length more ≡ bred.count
  pub few : bred.count ≤ most
  pub first : AreFirstDetections c representatives start bred.vectors.list bred.places.items
  pub within : AreWithin c bred.vectors.list bred.places.items
  pub detected : bred.detected ≡ length (detected_of representatives bred.places.items)
