-- Relations that the operations keep are kept by every gate.
use Rattle.std.proofs.Common.{ap, sym, ◌∙◌, ◌<◌, ℕ, length, map, arith, ◌≡◌, inl, List, [], ◌∷◌, Bool, false, refl}
use Rattle.std.proofs.lemmas.Bool.{eqb-true, ltb-true}
use Rattle.ht_tern.specs.declared.tern.Tern.{Tern}
use Rattle.ht_tern.specs.declared.tern.Tern.TheVariants.{Unk}
use Rattle.ht_tern.specs.declared.gate.Kind.{Kind}
use Rattle.ht_tern.specs.declared.gate.Kind.TheVariants.{And, Nand, Or, Nor, Xor, Xnor, Not, Buf}
use Rattle.ht_tern.specs.Gate.{Operations, tern_operations, bool_operations, operation_of, polarity_of, folded, gate_value_over, gate_value, bool_gate_value, tern_of, Refines, StandsFor, AllRelated, complement_of, and_of, or_of, xor_of, HasArity}
use Rattle.ht_tern.proofs.RefinementLaws.{PreservesOperations, refinement_preserved, bits_preserved, not_bits, and_bits, or_bits, xor_bits}

-- the operation that a kind folds keeps each relation that the operations of both domains keep
pub operation_related : {V W : Type 0} → (R : V → W → Type 0) (o : Operations V) (p : Operations W)
    (keeps : PreservesOperations R o p) (kind : Kind) (x u : V) (y v : W)
    → R x y → R u v → R (operation_of o kind x u) (operation_of p kind y v)
operation_related R o p keeps And x u y v h k = keeps.conjunction x u y v h k
operation_related R o p keeps Nand x u y v h k = keeps.conjunction x u y v h k
operation_related R o p keeps Or x u y v h k = keeps.disjunction x u y v h k
operation_related R o p keeps Nor x u y v h k = keeps.disjunction x u y v h k
operation_related R o p keeps Xor x u y v h k = keeps.parity x u y v h k
operation_related R o p keeps Xnor x u y v h k = keeps.parity x u y v h k
operation_related R o p keeps Not x u y v h k = h
operation_related R o p keeps Buf x u y v h k = h

-- a complement where the kind inverts keeps each relation that the operations of both domains keep
pub polarity_related : {V W : Type 0} → (R : V → W → Type 0) (o : Operations V) (p : Operations W)
    (keeps : PreservesOperations R o p) (kind : Kind) (x : V) (y : W)
    → R x y → R (polarity_of o kind x) (polarity_of p kind y)
polarity_related R o p keeps And x y h = h
polarity_related R o p keeps Nand x y h = keeps.complement x y h
polarity_related R o p keeps Or x y h = h
polarity_related R o p keeps Nor x y h = keeps.complement x y h
polarity_related R o p keeps Xor x y h = h
polarity_related R o p keeps Xnor x y h = keeps.complement x y h
polarity_related R o p keeps Not x y h = keeps.complement x y h
polarity_related R o p keeps Buf x y h = h

-- folds from related values over related lists are related, if each step keeps the relation
pub folded_related : {V W : Type 0} → (R : V → W → Type 0) (f : V → V → V) (g : W → W → W)
    (keeps : (x u : V) (y v : W) → R x y → R u v → R (f x u) (g y v))
    (x : V) (y : W) (xs : List V) (ys : List W) → R x y → AllRelated R xs ys → R (folded f x xs) (folded g y ys)
folded_related R f g keeps x y [] [] h k = h
folded_related R f g keeps x y [] (v ∷ ys) h k = absurd k
folded_related R f g keeps x y (u ∷ xs) [] h k = absurd k
folded_related R f g keeps x y (u ∷ xs) (v ∷ ys) h k = folded_related R f g keeps (f x u) (g y v) xs ys
    (keeps x u y v h k.0) k.1

-- a gate's values over two domains are related, if arguments and blanks are and the operations keep the relation
pub gate_related : {V W : Type 0} → (R : V → W → Type 0) (o : Operations V) (p : Operations W)
    (keeps : PreservesOperations R o p) (d : V) (e : W) (blank : R d e)
    (kind : Kind) (xs : List V) (ys : List W) → AllRelated R xs ys
    → R (gate_value_over o d kind xs) (gate_value_over p e kind ys)
gate_related R o p keeps d e blank kind [] [] h = blank
gate_related R o p keeps d e blank kind [] (y ∷ ys) h = absurd h
gate_related R o p keeps d e blank kind (x ∷ xs) [] h = absurd h
gate_related R o p keeps d e blank kind (x ∷ xs) (y ∷ ys) h =
    polarity_related R o p keeps kind _ _
    (folded_related R (operation_of o kind) (operation_of p kind) (operation_related R o p keeps kind) x y xs ys h.0
    h.1)

-- a gate's value over some arguments refines its value over any that those refine
pub gate_refines : (kind : Kind) (xs ys : List Tern) → AllRelated Refines xs ys
    → Refines (gate_value kind xs) (gate_value kind ys)
gate_refines = gate_related Refines tern_operations tern_operations refinement_preserved Unk Unk (inl refl)

-- a gate's value on bits stands for its three-valued value over what those bits stand for
pub gate_bits : (kind : Kind) (xs : List Tern) (ys : List Bool) → AllRelated StandsFor xs ys
    → StandsFor (gate_value kind xs) (bool_gate_value kind ys)
gate_bits = gate_related StandsFor tern_operations bool_operations bits_preserved Unk false (inl refl)

-- a value is this bit
abbrev pub IsBit : Tern → Bool → Type 0
IsBit x bit = x ≡ tern_of bit

is_bit_preserved : PreservesOperations IsBit tern_operations bool_operations
is_bit_preserved = record {
  complement = λ x y h. ap complement_of h ∙ sym (not_bits y);
  conjunction = λ x u y v h k. (λ i. and_of (h i) (k i)) ∙ sym (and_bits y v);
  disjunction = λ x u y v h k. (λ i. or_of (h i) (k i)) ∙ sym (or_bits y v);
  parity = λ x u y v h k. (λ i. xor_of (h i) (k i)) ∙ sym (xor_bits y v);
}

are_bits : (bits : List Bool) → AllRelated IsBit (map tern_of bits) bits
are_bits [] = tt
are_bits (bit ∷ bits) = (refl, are_bits bits)

-- on definite arguments, one or more, a gate gives what it gives on bits
pub gate_definite : (kind : Kind) (bits : List Bool) → 0 < length bits → gate_value kind (map tern_of bits)
    ≡ tern_of (bool_gate_value kind bits)
gate_definite kind [] some = absurd (omega arith)
gate_definite kind (bit ∷ bits) some =
    polarity_related IsBit tern_operations bool_operations is_bit_preserved kind _ _
    (folded_related IsBit (operation_of tern_operations kind) (operation_of bool_operations kind)
    (operation_related IsBit tern_operations bool_operations is_bit_preserved kind)
    (tern_of bit) bit (map tern_of bits) bits refl (are_bits bits))

-- a gate has an argument
pub arity_positive : (kind : Kind) (n : ℕ) → HasArity kind n → 0 < n
arity_positive And n h = ltb-true 0 n h
arity_positive Nand n h = ltb-true 0 n h
arity_positive Or n h = ltb-true 0 n h
arity_positive Nor n h = ltb-true 0 n h
arity_positive Xor n h = ltb-true 0 n h
arity_positive Xnor n h = ltb-true 0 n h
arity_positive Not n h = let e = eqb-true n 1 h in omega arith
arity_positive Buf n h = let e = eqb-true n 1 h in omega arith
