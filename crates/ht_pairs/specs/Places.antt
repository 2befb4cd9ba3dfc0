-- The places of operations and of what kinds make of a folded set, in the tables.
use Rattle.std.specs.Prelude.{ℕ, if◌then◌else◌}
use Rattle.ht_tern.specs.Gate.{inverts}
use Rattle.ht_tern.specs.declared.gate.Kind.{Kind}
use Rattle.ht_tern.specs.declared.gate.Kind.TheVariants.{And, Nand, Or, Nor, Xor, Xnor, Not, Buf}

-- the place of the operation that a kind folds, in the tables of their parts
abbrev pub place_of : Kind → ℕ
place_of And = 0
place_of Nand = 0
place_of Or = 1
place_of Nor = 1
place_of Xor = 2
place_of Xnor = 2
place_of Not = 3
place_of Buf = 3

-- the place of what a kind makes of the folded set: 1 where it inverts
abbrev pub polarity_place : Kind → ℕ
polarity_place kind = if inverts kind then 1 else 0
