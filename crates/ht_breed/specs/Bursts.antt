-- What is promised of a burst.
use Rattle.std.specs.Prelude.{◌≡◌, ◌≤◌, ℕ, length}
use Rattle.ht_net.specs.Frames.Rows.{Rows}

-- A burst that can be applied: each vector has a bit for each of so many inputs, and there are at most so many vectors.
pub record IsBurst (width most : ℕ) (burst : Rows) : Type 0 where
  pub inputs : burst.width ≡ width
  pub few : length burst.list ≤ most
