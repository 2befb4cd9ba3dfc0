-- Which nets of a window matter.
use Rattle.std.specs.Prelude.{ℕ, Bool, true, Option, None, Some}
use Rattle.ht_relevant.specs.Near.{RelevantState, matters}

-- whether net x of frame f matters: all do, or those that are found
abbrev pub is_relevant : Option RelevantState → ℕ → ℕ → Bool
is_relevant None f x = true
is_relevant (Some r) f x = matters r f x
