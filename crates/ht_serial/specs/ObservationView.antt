-- What was observed of a device while a list of vectors was applied to it.
use Rattle.std.specs.Prelude.{ℕ, List}
use Rattle.ht_tern.specs.declared.tern.Tern.{Tern}

-- an observation: the rows that were seen
pub record ObservationView : Type 0 where
  -- how many outputs there are
  pub width : ℕ
  -- a row for each vector, with a value for each output, unknown where nothing was seen
  pub rows : List (List Tern)
