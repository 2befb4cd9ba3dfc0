-- Kinds by number, since an enum does not cross into C.
use Rattle.std.specs.Prelude.{ℕ, zero, suc}
use Rattle.ht_tern.specs.declared.gate.Kind.{Kind}
use Rattle.ht_tern.specs.declared.gate.Kind.TheVariants.{And, Nand, Or, Nor, Xor, Xnor}

-- the kinds of any number of arguments
abbrev pub kind_of : ℕ → Kind
kind_of zero = And
kind_of (suc zero) = Nand
kind_of (suc (suc zero)) = Or
kind_of (suc (suc (suc zero))) = Nor
kind_of (suc (suc (suc (suc zero)))) = Xor
kind_of (suc (suc (suc (suc (suc n))))) = Xnor
