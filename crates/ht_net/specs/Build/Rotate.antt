-- A cycle from its least name on.
use Rattle.std.specs.Prelude.{◌≡◌, ℕ, List, ◌++◌, ◌<◌, ◌≤◌, length, get_or, take, drop}
use Rattle.ht_net.specs.declared.names.NameId.{NameId}
use Rattle.ht_net.specs.Build.Finish.{no_name}

-- A cycle of names, turned so that its least one comes first.
pub record IsLeastFirst (names rotated : List NameId) : Type 0 where
  pub place : ℕ
  pub is_place : place < length names
  pub least : (k : ℕ) → k < length names → (get_or names place no_name).0
      ≤ (get_or names k no_name).0
  pub is : rotated ≡ drop place names ++ take place names
