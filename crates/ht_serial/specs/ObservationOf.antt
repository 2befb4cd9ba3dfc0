-- How an observation's fields stand for it.
use Rattle.std.specs.Prelude.{◌≡◌, ◌<◌, ℕ, List, [], Vec, length, get_or, map}
use Rattle.std.specs.declared.alloc.Global.{Global}
use Rattle.ht_tern.specs.declared.tern.Tern.{Tern}
use Rattle.ht_serial.specs.ObservationView.{ObservationView}
use Rattle.ht_serial.specs.declared.observation.Observation.TheInside.{Inside}

-- the lists that rows of values are
abbrev pub value_rows : List (Vec Tern Global) → List (List Tern)
value_rows rows = map (λ (row : Vec Tern Global). row.items) rows

-- the observation that the stored fields stand for
abbrev pub observation_of : Inside → ObservationView
observation_of a = record { width = a.width; rows = value_rows a.rows.items }

-- each row has a value for each output
abbrev pub AreOfWidth : Inside → Type 0
AreOfWidth a = (t : ℕ) → t < length (value_rows a.rows.items)
    → length (get_or (value_rows a.rows.items) t []) ≡ a.width
