-- Which lines are the text of a vector.
use Rattle.std.proofs.Common.{◌≡◌, ◌≢◌, ◌⊎◌, inl, inr, ℕ, List, Bool, true, false, refl, arith}
use Rattle.std.proofs.lemmas.Bool.{cases_eq}
use Rattle.ht_tern.specs.declared.tern.Tern.{Tern}
use Rattle.ht_tern.specs.declared.tern.Tern.TheVariants.{Zero, One, Unk}
use Rattle.ht_texts.specs.Tests.{bit_code, tern_code, vector_text}
use Rattle.ht_texts.proofs.CodedLaws.{map_injective}

-- bits with the same character are the same
pub bit_code_injective : (a b : Bool) → bit_code a ≡ bit_code b → a ≡ b
bit_code_injective false false e = refl
bit_code_injective false true e = absurd (omega (arith, e))
bit_code_injective true false e = absurd (omega (arith, e))
bit_code_injective true true e = refl

-- three-valued values with the same character are the same
pub tern_code_injective : (a b : Tern) → tern_code a ≡ tern_code b → a ≡ b
tern_code_injective Zero Zero e = refl
tern_code_injective Zero One e = absurd (omega (arith, e))
tern_code_injective Zero Unk e = absurd (omega (arith, e))
tern_code_injective One Zero e = absurd (omega (arith, e))
tern_code_injective One One e = refl
tern_code_injective One Unk e = absurd (omega (arith, e))
tern_code_injective Unk Zero e = absurd (omega (arith, e))
tern_code_injective Unk One e = absurd (omega (arith, e))
tern_code_injective Unk Unk e = refl

-- vectors with the same text are the same
pub vector_text_injective : (a b : List Bool) → vector_text a ≡ vector_text b → a ≡ b
vector_text_injective = map_injective bit_code bit_code_injective

-- a character is a bit's or no bit's
pub bit_or_none : (x : ℕ) → ((bit : Bool) × (x ≡ bit_code bit)) ⊎ ((bit : Bool) → x ≢ bit_code bit)
bit_or_none x = elim (cases_eq x 48) [
  | inl is_0 ↦ inl (false, is_0)
  | inr not_0 ↦ elim (cases_eq x 49) [
    | inl is_1 ↦ inl (true, is_1)
    | inr not_1 ↦ inr (λ bit. elim bit as (λ b. x ≢ bit_code b) [ false ↦ not_0 | true ↦ not_1 ])
  ]
]
