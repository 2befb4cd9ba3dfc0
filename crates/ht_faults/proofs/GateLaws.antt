-- What the table says of a gate holds in each domain of values: an input at the value gives the output's value.
use Rattle.std.proofs.Common.{◌≡◌, ◌<◌, ℕ, suc, zero, List, [], ◌∷◌, length, get_or, Bool, true, false, not, ◌&&◌, ◌||◌, Some, refl, ◌∙◌, ap, arith}
use Rattle.std.specs.Prelude.{eqb}
use Rattle.std.proofs.lemmas.Bool.Decides.{nat_tests}
use Rattle.std.proofs.lemmas.Option.{same_Some}
use Rattle.ht_tern.specs.declared.tern.Tern.{Tern}
use Rattle.ht_tern.specs.declared.tern.Tern.TheVariants.{Zero, One, Unk}
use Rattle.ht_tern.specs.declared.gate.Kind.{Kind}
use Rattle.ht_tern.specs.declared.gate.Kind.TheVariants.{And, Nand, Or, Nor, Xor, Xnor, Not, Buf}
use Rattle.ht_tern.specs.Gate.{Operations, tern_operations, bool_operations, folded, gate_value_over, tern_of, and_of, or_of}
use Rattle.ht_faults.specs.Table.{controlled_output, single_output, equivalent_output}

-- The bits of a domain: complements, and the bit that decides a conjunction or a disjunction whatever the other value
-- is.
pub record HasBits {V : Type 0} (o : Operations V) (at : Bool → V) : Type 0 where
  pub complement : (b : Bool) → o.complement (at b) ≡ at (not b)
  pub conjunction_left : (x : V) → o.conjunction (at false) x ≡ at false
  pub conjunction_right : (x : V) → o.conjunction x (at false) ≡ at false
  pub disjunction_left : (x : V) → o.disjunction (at true) x ≡ at true
  pub disjunction_right : (x : V) → o.disjunction x (at true) ≡ at true

tern_and_right : (x : Tern) → and_of x Zero ≡ Zero
tern_and_right Zero = refl
tern_and_right One = refl
tern_and_right Unk = refl

tern_or_right : (x : Tern) → or_of x One ≡ One
tern_or_right Zero = refl
tern_or_right One = refl
tern_or_right Unk = refl

tern_complement : (b : Bool) → tern_operations.complement (tern_of b) ≡ tern_of (not b)
tern_complement false = refl
tern_complement true = refl

-- 0 and 1 are the bits of the domain of three values
pub tern_bits : HasBits tern_operations tern_of
tern_bits = record {
  complement = tern_complement;
  conjunction_left = λ x. refl;
  conjunction_right = tern_and_right;
  disjunction_left = λ x. refl;
  disjunction_right = tern_or_right;
}

and_right : (x : Bool) → (x && false) ≡ false
and_right false = refl
and_right true = refl

or_right : (x : Bool) → (x || true) ≡ true
or_right false = refl
or_right true = refl

-- the values of the domain of two values are its bits
pub bool_bits : HasBits bool_operations (λ b. b)
bool_bits = record {
  complement = λ b. refl;
  conjunction_left = λ x. refl;
  conjunction_right = and_right;
  disjunction_left = λ x. refl;
  disjunction_right = or_right;
}

-- a value that decides an operation decides its fold
fold_from : {V : Type 0} → (op : V → V → V) (z : V) (left : (x : V) → op z x ≡ z) (xs : List V) → folded op z xs ≡ z
fold_from op z left [] = refl
fold_from op z left (x ∷ xs) = ap (λ v. folded op v xs) (left x) ∙ fold_from op z left xs

fold_at : {V : Type 0} → (op : V → V → V) (z blank : V) (left : (x : V) → op z x ≡ z) (right : (x : V) → op x z ≡ z)
    (a : V) (xs : List V) (i : ℕ)
    → i < length (a ∷ xs) → get_or (a ∷ xs) i blank ≡ z → folded op a xs ≡ z
fold_at op z blank left right a xs zero inside at = ap (λ v. folded op v xs) at ∙ fold_from op z left xs
fold_at op z blank left right a [] (suc i) inside at = absurd (omega arith)
fold_at op z blank left right a (x ∷ xs) (suc zero) inside at =
    ap (λ v. folded op v xs) (ap (op a) at ∙ right a) ∙ fold_from op z left xs
fold_at op z blank left right a (x ∷ xs) (suc (suc i)) inside at =
    fold_at op z blank left right (op a x) xs (suc i) (omega arith) at

-- a domain's bits and what stands where there is no argument
module _ {V : Type 0} (o : Operations V) (at : Bool → V) (blank : V) (bits : HasBits o at) where
  conjunction_at : (a : V) (xs : List V) (i : ℕ) → i < length (a ∷ xs) → get_or (a ∷ xs) i blank ≡ at false
      → folded o.conjunction a xs ≡ at false
  conjunction_at a xs i inside is = fold_at o.conjunction (at false) blank bits.conjunction_left bits.conjunction_right
      a xs i inside is

  disjunction_at : (a : V) (xs : List V) (i : ℕ) → i < length (a ∷ xs) → get_or (a ∷ xs) i blank ≡ at true
      → folded o.disjunction a xs ≡ at true
  disjunction_at a xs i inside is = fold_at o.disjunction (at true) blank bits.disjunction_left bits.disjunction_right a
      xs i inside is

  complement_is : (x : V) (b w : Bool) → x ≡ at b → not b ≡ w → o.complement x ≡ at w
  complement_is x b w is h = ap o.complement is ∙ (bits.complement b ∙ ap at h)

  controlled : (kind : Kind) (a : V) (xs : List V) (i : ℕ) (v w : Bool) → i < length (a ∷ xs) → get_or (a ∷ xs) i blank
      ≡ at v
      → controlled_output kind v ≡ Some w → gate_value_over o blank kind (a ∷ xs) ≡ at w
  controlled And a xs i false w inside is h = conjunction_at a xs i inside is ∙ ap at (same_Some false w h)
  controlled Nand a xs i false w inside is h = complement_is _ false w (conjunction_at a xs i inside is)
      (same_Some true w h)
  controlled Or a xs i true w inside is h = disjunction_at a xs i inside is ∙ ap at (same_Some true w h)
  controlled Nor a xs i true w inside is h = complement_is _ true w (disjunction_at a xs i inside is)
      (same_Some false w h)
  controlled And a xs i true w inside is h = cc
  controlled Nand a xs i true w inside is h = cc
  controlled Or a xs i false w inside is h = cc
  controlled Nor a xs i false w inside is h = cc
  controlled Xor a xs i v w inside is h = cc
  controlled Xnor a xs i v w inside is h = cc
  controlled Not a xs i v w inside is h = cc
  controlled Buf a xs i v w inside is h = cc

  single : (kind : Kind) (a : V) (v w : Bool) → a ≡ at v → Some (single_output kind v) ≡ Some w
      → gate_value_over o blank kind (a ∷ []) ≡ at w
  single And a v w is h = is ∙ ap at (same_Some v w h)
  single Nand a v w is h = complement_is a v w is (same_Some (not v) w h)
  single Or a v w is h = is ∙ ap at (same_Some v w h)
  single Nor a v w is h = complement_is a v w is (same_Some (not v) w h)
  single Xor a v w is h = is ∙ ap at (same_Some v w h)
  single Xnor a v w is h = complement_is a v w is (same_Some (not v) w h)
  single Not a v w is h = complement_is a v w is (same_Some (not v) w h)
  single Buf a v w is h = is ∙ ap at (same_Some v w h)

  -- An input at a value of the table gives the output the table's value.
  pub table_holds : (kind : Kind) (xs : List V) (i : ℕ) (v w : Bool) → i < length xs → get_or xs i blank ≡ at v
      → equivalent_output kind (length xs) v ≡ Some w → gate_value_over o blank kind xs ≡ at w
  unfolding equivalent_output
  table_holds kind [] i v w inside is h = absurd (omega arith)
  table_holds kind (a ∷ []) zero v w inside is h = single kind a v w is h
  table_holds kind (a ∷ []) (suc i) v w inside is h = absurd (omega arith)
  table_holds kind (a ∷ (b ∷ xs)) i v w inside is h =
      let many : eqb (length (a ∷ (b ∷ xs))) 1 ≡ false = grind (arith, nat_tests) in
      controlled kind a (b ∷ xs) i v w inside is (rw many at h)
