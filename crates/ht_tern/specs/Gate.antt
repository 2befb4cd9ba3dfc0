-- The three values, the kinds of gate, and the value of a gate over any domain of values.
use Rattle.std.specs.Prelude.{◌≡◌, ◌⊎◌, ℕ, List, [], ◌∷◌, Bool, true, false, not, ◌&&◌, ◌||◌, nat_eq, nat_lt, IsTrue, if◌then◌else◌}
use Rattle.ht_tern.specs.declared.tern.Tern.{Tern}
use Rattle.ht_tern.specs.declared.tern.Tern.TheVariants.{Zero, One, Unk}
use Rattle.ht_tern.specs.declared.gate.Kind.{Kind}
use Rattle.ht_tern.specs.declared.gate.Kind.TheVariants.{And, Nand, Or, Nor, Xor, Xnor, Not, Buf}

-- Kleene's tables
abbrev pub complement_of : Tern → Tern
complement_of Zero = One
complement_of One = Zero
complement_of Unk = Unk

-- conjunction of two values by Kleene's strong logic: 0 where one is 0, 1 where both are 1, else unknown
abbrev pub and_of : Tern → Tern → Tern
and_of Zero b = Zero
and_of One b = b
and_of Unk Zero = Zero
and_of Unk One = Unk
and_of Unk Unk = Unk

-- disjunction of two values by Kleene's strong logic: 1 where one is 1, 0 where both are 0, else unknown
abbrev pub or_of : Tern → Tern → Tern
or_of One b = One
or_of Zero b = b
or_of Unk One = One
or_of Unk Zero = Unk
or_of Unk Unk = Unk

-- exclusive or of two values: unknown where one is unknown
abbrev pub xor_of : Tern → Tern → Tern
xor_of Unk b = Unk
xor_of Zero b = b
xor_of One b = complement_of b

-- exclusive or of two bits
abbrev pub bool_xor : Bool → Bool → Bool
bool_xor false b = b
bool_xor true b = not b

-- The operations of a domain of values.
pub record Operations (V : Type 0) : Type 0 where
  pub complement : V → V
  pub conjunction : V → V → V
  pub disjunction : V → V → V
  pub parity : V → V → V

-- the operations of three-valued logic (Kleene)
abbrev pub tern_operations : Operations Tern
tern_operations = record {
  complement = complement_of;
  conjunction = and_of;
  disjunction = or_of;
  parity = xor_of;
}

-- the operations of two-valued logic
abbrev pub bool_operations : Operations Bool
bool_operations = record {
  complement = not;
  conjunction = λ a b. a && b;
  disjunction = λ a b. a || b;
  parity = bool_xor;
}

-- the operation that a kind folds over its arguments
abbrev pub operation_of : {V : Type 0} → Operations V → Kind → V → V → V
operation_of o And = o.conjunction
operation_of o Nand = o.conjunction
operation_of o Or = o.disjunction
operation_of o Nor = o.disjunction
operation_of o Xor = o.parity
operation_of o Xnor = o.parity
operation_of o Not = λ a b. a
operation_of o Buf = λ a b. a

-- the kinds that give the complement of what they fold: NAND, NOR, XNOR and NOT
abbrev pub inverts : Kind → Bool
inverts Nand = true
inverts Nor = true
inverts Xnor = true
inverts Not = true
inverts kind = false

-- the complement where the kind inverts, else the value itself
abbrev pub polarity_of : {V : Type 0} → Operations V → Kind → V → V
polarity_of o kind = if inverts kind then o.complement else λ a. a

-- an operation over a value and then each value of a list, from the left
abbrev pub folded : {V : Type 0} → (V → V → V) → V → List V → V
folded op a [] = a
folded op a (b ∷ bs) = folded op (op a b) bs

-- a gate's value over a domain, with what stands where there is no argument
abbrev pub gate_value_over : {V : Type 0} → Operations V → V → Kind → List V → V
gate_value_over o blank kind [] = blank
gate_value_over o blank kind (a ∷ more) = polarity_of o kind (folded (operation_of o kind) a more)

-- a gate's value over three values and over two
abbrev pub gate_value : Kind → List Tern → Tern
gate_value kind args = gate_value_over tern_operations Unk kind args

-- what a gate gives on bits
abbrev pub bool_gate_value : Kind → List Bool → Bool
bool_gate_value kind args = gate_value_over bool_operations false kind args

-- how many arguments a kind may have: one for NOT and BUFF, else one or more
abbrev pub has_arity : Kind → ℕ → Bool
has_arity Not n = nat_eq n 1
has_arity Buf n = nat_eq n 1
has_arity kind n = nat_lt 0 n

-- a kind may have so many arguments
abbrev pub HasArity : Kind → ℕ → Type 0
HasArity kind n = IsTrue (has_arity kind n)

-- a bit as a three-valued value
abbrev pub tern_of : Bool → Tern
tern_of false = Zero
tern_of true = One

-- a tells all that b tells
abbrev pub Refines : Tern → Tern → Type 0
Refines a b = (b ≡ Unk) ⊎ (a ≡ b)

-- a bit stands for each three-valued value that it refines
abbrev pub StandsFor : Tern → Bool → Type 0
StandsFor x bit = Refines (tern_of bit) x

-- two lists of one length are related member by member
abbrev pub AllRelated : {V W : Type 0} → (V → W → Type 0) → List V → List W → Type 0
AllRelated R [] [] = Unit {0}
AllRelated R [] (y ∷ ys) = ⊥
AllRelated R (x ∷ xs) [] = ⊥
AllRelated R (x ∷ xs) (y ∷ ys) = R x y × AllRelated R xs ys
