-- How the fields of classes stand for them.
use Rattle.std.specs.Prelude.{◌≡◌, ◌<◌, ◌^◌, ℕ, List, length}
use Rattle.ht_faults.specs.declared.classes.Classes.TheInside.{Inside}
use Rattle.ht_faults.specs.Classes.{own_representatives}

-- the representative of each fault
abbrev pub representatives_in : Inside → List ℕ
representatives_in a = a.by_fault.items

-- The representatives are listed, and their number fits.
pub record AreListed (a : Inside) : Type 0 where
  pub own : a.own.items ≡ own_representatives a.by_fault.items
  pub short : length a.by_fault.items < 2 ^ 32
