-- What a tester can tell apart: two values that are definite and opposite.
use Rattle.std.specs.Prelude.{Bool, true, false}
use Rattle.ht_tern.specs.declared.tern.Tern.{Tern}
use Rattle.ht_tern.specs.declared.tern.Tern.TheVariants.{Zero, One}

-- both values are definite, and they are opposite
abbrev pub Opposite : Tern → Tern → Type 0
Opposite Zero One = Unit {0}
Opposite One Zero = Unit {0}
Opposite good faulty = ⊥

-- the same as a test
abbrev pub are_opposite : Tern → Tern → Bool
are_opposite Zero One = true
are_opposite One Zero = true
are_opposite good faulty = false
