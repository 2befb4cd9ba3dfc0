-- The operations keep refinement, by their tables.
use Rattle.std.proofs.Common.{◌≡◌, inl, inr, Bool, true, false, refl, not, ◌&&◌, ◌||◌}
use Rattle.std.proofs.lemmas.Bool.{and_from, and_parts}
use Rattle.ht_tern.specs.declared.tern.Tern.{Tern}
use Rattle.ht_tern.specs.declared.tern.Tern.TheVariants.{Zero, One, Unk}
use Rattle.ht_tern.specs.Gate.{Operations, tern_operations, bool_operations, tern_of, Refines, StandsFor, complement_of, and_of, or_of, xor_of, bool_xor}

-- The operations of two domains preserve a relation between their values.
pub record PreservesOperations {V W : Type 0} (R : V → W → Type 0) (o : Operations V) (p : Operations W) : Type 0 where
  pub complement : (x : V) (y : W) → R x y → R (o.complement x) (p.complement y)
  pub conjunction : (x u : V) (y v : W) → R x y → R u v → R (o.conjunction x u) (p.conjunction y v)
  pub disjunction : (x u : V) (y v : W) → R x y → R u v → R (o.disjunction x u) (p.disjunction y v)
  pub parity : (x u : V) (y v : W) → R x y → R u v → R (o.parity x u) (p.parity y v)

-- A test that is true of all values is true of each.
abbrev pub all_terns : (Tern → Bool) → Bool
all_terns p = p Zero && (p One && p Unk)

-- a test that passes on all three values passes on each
pub each_tern : (p : Tern → Bool) → all_terns p ≡ true → (x : Tern) → p x ≡ true
each_tern p h Zero = (and_parts (p Zero) _ h).0
each_tern p h One = (and_parts (p One) _ (and_parts (p Zero) _ h).1).0
each_tern p h Unk = (and_parts (p One) _ (and_parts (p Zero) _ h).1).1

abbrev pub refines_test : Tern → Tern → Bool
refines_test a Unk = true
refines_test Zero Zero = true
refines_test One One = true
refines_test a b = false

-- where the test passes, the first value refines the second
pub refines_from : (a b : Tern) → refines_test a b ≡ true → Refines a b
refines_from a Unk h = inl refl
refines_from Zero Zero h = inr refl
refines_from One One h = inr refl
refines_from Zero One h = cc
refines_from One Zero h = cc
refines_from Unk Zero h = cc
refines_from Unk One h = cc

-- a value that refines another passes the test
pub refines_to : (a b : Tern) → Refines a b → refines_test a b ≡ true
refines_to a Unk h = refl
refines_to Zero Zero h = refl
refines_to One One h = refl
refines_to Zero One (inl h) = cc
refines_to Zero One (inr h) = cc
refines_to One Zero (inl h) = cc
refines_to One Zero (inr h) = cc
refines_to Unk Zero (inl h) = cc
refines_to Unk Zero (inr h) = cc
refines_to Unk One (inl h) = cc
refines_to Unk One (inr h) = cc

-- for each pair of tests: whether the second follows
abbrev pub follows : Bool → Bool → Bool
follows true b = b
follows false b = true

-- where a second test follows from the first and the first passes, so does the second
pub follows_gives : (a b : Bool) → follows a b ≡ true → a ≡ true → b ≡ true
follows_gives true b h k = h
follows_gives false b h k = cc

-- an operation of two arguments keeps refinement at these four values
abbrev pub keeps_at : (Tern → Tern → Tern) → Tern → Tern → Tern → Tern → Bool
keeps_at f x u y v = follows (refines_test x y && refines_test u v) (refines_test (f x u) (f y v))

-- an operation of two arguments keeps refinement, by its table
abbrev pub keeps_two : (Tern → Tern → Tern) → Bool
keeps_two f = all_terns (λ x. all_terns (λ u. all_terns (λ y. all_terns (λ v. keeps_at f x u y v))))

-- an operation that keeps refinement by its table keeps it at all arguments
pub keeps_two_gives : (f : Tern → Tern → Tern) → keeps_two f ≡ true → (x u y v : Tern) → Refines x y → Refines u v
    → Refines (f x u) (f y v)
keeps_two_gives f h x u y v a b =
    let at_x = each_tern (λ s. all_terns (λ t. all_terns (λ z. all_terns (λ w. keeps_at f s t z w)))) h x in
    let at_u = each_tern (λ t. all_terns (λ z. all_terns (λ w. keeps_at f x t z w))) at_x u in
    let at_y = each_tern (λ z. all_terns (λ w. keeps_at f x u z w)) at_u y in
    let at_v = each_tern (λ w. keeps_at f x u y w) at_y v in
    let both = and_from (refines_test x y) (refines_test u v) (refines_to x y a) (refines_to u v b) in
    refines_from _ _
    (follows_gives (refines_test x y && refines_test u v) (refines_test (f x u) (f y v)) at_v both)

-- the complement keeps refinement
abbrev complement_keeps_at : Tern → Tern → Bool
complement_keeps_at x y = follows (refines_test x y) (refines_test (complement_of x) (complement_of y))

complement_keeps : (x y : Tern) → Refines x y → Refines (complement_of x) (complement_of y)
complement_keeps x y h =
    let at_x = each_tern (λ x. all_terns (λ y. complement_keeps_at x y)) refl x in
    let at_y = each_tern (λ y. complement_keeps_at x y) at_x y in
    refines_from _ _
    (follows_gives (refines_test x y) (refines_test (complement_of x) (complement_of y)) at_y (refines_to x y h))

-- the operations of three-valued logic keep refinement
pub refinement_preserved : PreservesOperations Refines tern_operations tern_operations
refinement_preserved = record {
  complement = complement_keeps;
  conjunction = keeps_two_gives and_of refl;
  disjunction = keeps_two_gives or_of refl;
  parity = keeps_two_gives xor_of refl;
}

-- An operation on three values agrees with the one on bits where its arguments are definite.
pub stands_two : (f : Tern → Tern → Tern) (g : Bool → Bool → Bool) → keeps_two f ≡ true
    → ((a b : Bool) → tern_of (g a b) ≡ f (tern_of a) (tern_of b))
    → (x u : Tern) (y v : Bool) → StandsFor x y → StandsFor u v → StandsFor (f x u) (g y v)
stands_two f g k e x u y v h l = rw e (keeps_two_gives f k (tern_of y) (tern_of v) x u h l)

-- the complement of a bit is the same over two values and over three
pub not_bits : (b : Bool) → tern_of (not b) ≡ complement_of (tern_of b)
not_bits false = refl
not_bits true = refl

-- the conjunction of two bits is the same over two values and over three
pub and_bits : (a b : Bool) → tern_of (a && b) ≡ and_of (tern_of a) (tern_of b)
and_bits false b = refl
and_bits true b = refl

-- the disjunction of two bits is the same over two values and over three
pub or_bits : (a b : Bool) → tern_of (a || b) ≡ or_of (tern_of a) (tern_of b)
or_bits false b = refl
or_bits true b = refl

-- the exclusive or of two bits is the same over two values and over three
pub xor_bits : (a b : Bool) → tern_of (bool_xor a b) ≡ xor_of (tern_of a) (tern_of b)
xor_bits false b = refl
xor_bits true b = not_bits b

-- where bits stand for values, an operation on the bits stands for the one on the values
pub bits_preserved : PreservesOperations StandsFor tern_operations bool_operations
bits_preserved = record {
  complement = λ x y h. rw not_bits (refinement_preserved.complement (tern_of y) x h);
  conjunction = stands_two and_of (λ a b. a && b) refl and_bits;
  disjunction = stands_two or_of (λ a b. a || b) refl or_bits;
  parity = stands_two xor_of bool_xor refl xor_bits;
}
