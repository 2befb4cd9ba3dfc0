-- The lines of a refutation from a state, told apart by their texts.
use Rattle.std.proofs.Common.{◌≡◌, ◌≢◌, ◌⊎◌, inl, inr, ℕ, ◌+◌, ◌≤◌, Bool, true, false, List, [], ◌∷◌, ◌++◌, Option, Some, None, append_assoc, refl, sym, ap, ◌∙◌, subst, arith}
use Rattle.std.specs.Prelude.{codes}
use Rattle.std.specs.Fmt.{decimal}
use Rattle.std.proofs.lemmas.List.{append-nil, append_cancel_left}
use Rattle.ht_texts.specs.Tests.{bit_code, vector_text}
use Rattle.ht_texts.proofs.VectorLaws.{bit_code_injective}
use Rattle.ht_tree.specs.declared.clause.Literal.{Literal}
use Rattle.ht_entries.specs.declared.from_state.FromStateLine.TheVariants as form
use Rattle.ht_entries.specs.ProofLines.{IsNumber, IsIndex}
use Rattle.ht_entries.specs.FromState.{literal_text, second_text, first_text, from_state_text, IsStateText, IsSecondText, IsFromStateLine, IsNoClauseLine, IsNoFirstLine}
use Rattle.ht_entries.proofs.SpaceLaws.{number_front_same}

abbrev rest_of : List ℕ → List ℕ
rest_of [] = []
rest_of (x ∷ xs) = xs

abbrev first_of : List ℕ → ℕ
first_of [] = 0
first_of (x ∷ xs) = x

no_text : (x : ℕ) (xs : List ℕ) → [] ≡ x ∷ xs → ⊥
no_text x xs e = cc

-- ---- literals

literal_then : (l : Literal) (rest : List ℕ)
    → literal_text l ++ rest ≡ decimal (l.dff + 1) ++ codes " " ++ bit_code l.value ∷ rest
literal_then l rest = append_assoc (decimal (l.dff + 1) ++ codes " ") (bit_code l.value ∷ []) rest

abbrev literal_of : ℕ → Bool → Literal
literal_of dff value = record { dff = dff; value = value }

pub record SameLiteral (l m : Literal) (rest more : List ℕ) : Type 0 where
  pub literals : l ≡ m
  pub rests : rest ≡ more

-- equal texts that begin with a literal begin with the same one and have the same rest
pub literal_front_same : (l m : Literal) (rest more : List ℕ) → IsIndex l.dff → IsIndex m.dff
    → literal_text l ++ rest ≡ literal_text m ++ more → SameLiteral l m rest more
literal_front_same l m rest more h k e =
    let same = number_front_same (l.dff + 1) (m.dff + 1) (bit_code l.value ∷ rest) (bit_code m.value ∷ more)
    (omega (arith, h)) (omega (arith, k)) (sym (literal_then l rest) ∙ e ∙ literal_then m more) in
    let dffs : l.dff ≡ m.dff = omega (arith, same.numbers) in
    let values = bit_code_injective l.value m.value (ap first_of same.rests) in
    record {
      literals = ap (λ dff. literal_of dff l.value) dffs ∙ ap (λ value. literal_of m.dff value) values;
      rests = ap rest_of same.rests;
    }

bit_is_read : (value : Bool) (after rest : List ℕ) → ((more : List ℕ) → after ≢ codes "0" ++ more)
    → ((more : List ℕ) → after ≢ codes "1" ++ more) → after ≢ bit_code value ∷ rest
bit_is_read false after rest no_0 no_1 = no_0 rest
bit_is_read true after rest no_0 no_1 = no_1 rest

-- a number before what is no bit
pub no_bit_then : (text after : List ℕ) (n : ℕ) → IsNumber n → text ≡ decimal n ++ codes " " ++ after
    → ((rest : List ℕ) → after ≢ codes "0" ++ rest) → ((rest : List ℕ) → after ≢ codes "1" ++ rest)
    → (l : Literal) (rest : List ℕ) → IsIndex l.dff → text ≢ literal_text l ++ rest
no_bit_then text after n counts is no_0 no_1 l rest h e =
    let same = number_front_same n (l.dff + 1) after (bit_code l.value ∷ rest) counts.1 (omega (arith, h))
    (sym is ∙ e ∙ literal_then l rest) in
    bit_is_read l.value after rest no_0 no_1 same.rests

-- ---- clauses

-- no second literal is meant
pub no_second : (text after : List ℕ) (first : Literal) → text ≡ codes " " ++ after
    → ((l : Literal) (rest : List ℕ) → IsIndex l.dff → after ≢ literal_text l ++ rest)
    → (l : Literal) → IsSecondText first (Some l) → text ≢ second_text (Some l)
no_second text after first is none l h e =
    none l [] h.1 (ap rest_of (sym is ∙ e) ∙ sym (append-nil (literal_text l)))

-- a literal and more, or one that isn't above the first, is no second one
pub no_rising_second : (text after rest : List ℕ) (first second : Literal) → text ≡ codes " " ++ after
    → IsIndex second.dff → after ≡ literal_text second ++ rest
    → (rest ≢ []) ⊎ (second.dff ≤ first.dff)
    → (l : Literal) → IsSecondText first (Some l) → text ≢ second_text (Some l)
no_rising_second text after rest first second is h at why l k e =
    let same = literal_front_same second l rest [] h k.1
    (sym at ∙ ap rest_of (sym is ∙ e) ∙ sym (append-nil (literal_text l))) in
    elim why [
      | inl more ↦ more same.rests
      | inr below ↦ let dffs = ap (λ (x : Literal). x.dff) same.literals in omega (arith, below, dffs, k.0)
    ]

clause_text_is : (first : Literal) (second : Option Literal)
    → from_state_text (form.Clause first second) ≡ codes "clause " ++ (literal_text first ++ second_text second)
clause_text_is first second = append_assoc (codes "clause ") (literal_text first) (second_text second)

-- no second literal comes after the first, and it isn't alone
second_is_read : (second : Option Literal) (rest : List ℕ) (first : Literal) → rest ≢ []
    → ((l : Literal) → IsSecondText first (Some l) → rest ≢ second_text (Some l)) → IsSecondText first second
    → rest ≢ second_text second
second_is_read None rest first more none h = more
second_is_read (Some l) rest first more none h = none l h

-- a line on which the first literal is followed by something other than a second is that of no clause
pub no_clause : (line literals rest : List ℕ) (first : Literal) → line ≡ codes "clause " ++ literals
    → IsIndex first.dff → literals ≡ literal_text first ++ rest → rest ≢ []
    → ((l : Literal) → IsSecondText first (Some l) → rest ≢ second_text (Some l)) → IsNoClauseLine line
no_clause line literals rest first is h at more none l second k e =
    let texts : literals ≡ literal_text l ++ second_text second =
    append_cancel_left (codes "clause ") literals (literal_text l ++ second_text second)
    (sym is ∙ e ∙ clause_text_is l second) in
    let same = literal_front_same first l rest (second_text second) h k.0 (sym at ∙ texts) in
    second_is_read second rest first more none
    (subst (λ (x : Literal). IsSecondText x second) (sym same.literals) k.1) same.rests

seconds_same : (first : Literal) (a b : Option Literal) → IsSecondText first a → IsSecondText first b
    → second_text a ≡ second_text b → a ≡ b
seconds_same first None None h k e = refl
seconds_same first None (Some m) h k e = absurd (no_text 32 (literal_text m) e)
seconds_same first (Some l) None h k e = absurd (no_text 32 (literal_text l) (sym e))
seconds_same first (Some l) (Some m) h k e =
    ap Some (literal_front_same l m [] [] h.1 k.1
    (append-nil (literal_text l) ∙ ap rest_of e ∙ sym (append-nil (literal_text m)))).literals

-- lines of clauses with the same text are the same
pub clauses_same : (first other : Literal) (a b : Option Literal) → IsFromStateLine (form.Clause first a)
    → IsFromStateLine (form.Clause other b)
    → from_state_text (form.Clause first a) ≡ from_state_text (form.Clause other b)
    → form.Clause first a ≡ form.Clause other b
clauses_same first other a b h k e =
    let texts : literal_text first ++ second_text a ≡ literal_text other ++ second_text b =
    append_cancel_left (codes "clause ") (literal_text first ++ second_text a) (literal_text other ++ second_text b)
    (sym (clause_text_is first a) ∙ e ∙ clause_text_is other b) in
    let same = literal_front_same first other (second_text a) (second_text b) h.0 k.0 texts in
    ap (λ x. form.Clause x a) same.literals
    ∙ ap (λ x. form.Clause other x)
    (seconds_same other a b (subst (λ (x : Literal). IsSecondText x a) same.literals h.1) k.1 same.rests)

-- ---- the first line

-- the first line is `entry`, the number, and the state after `untestable from`
pub first_text_is : (n : ℕ) (bits : List ℕ) → first_text n bits
    ≡ codes "entry " ++ (decimal n ++ codes " " ++ (codes "untestable from " ++ bits))
first_text_is n bits = ap (λ t. codes "entry " ++ t)
    (append_assoc (decimal n) (codes " untestable from ") bits
    ∙ sym (append_assoc (decimal n) (codes " ") (codes "untestable from " ++ bits)))

-- the characters of the state come last
pub first_again : (n : ℕ) (state : List Bool)
    → from_state_text (form.Begins n state) ≡ first_text n [] ++ vector_text state
first_again n state =
    ap (λ t. t ++ vector_text state) (sym (append-nil (codes "entry " ++ decimal n ++ codes " untestable from ")))

pub record SameFirst (m n : ℕ) (bits others : List ℕ) : Type 0 where
  pub numbers : m ≡ n
  pub states : bits ≡ others

-- first lines with the same text have the same number and the same characters of a state
pub first_text_same : (m n : ℕ) (bits others : List ℕ) → IsNumber m → IsNumber n
    → first_text m bits ≡ first_text n others → SameFirst m n bits others
first_text_same m n bits others h k e =
    let same = number_front_same m n (codes "untestable from " ++ bits) (codes "untestable from " ++ others) (h.1) (k.1)
    (append_cancel_left (codes "entry ") (decimal m ++ codes " " ++ (codes "untestable from " ++ bits))
    (decimal n ++ codes " " ++ (codes "untestable from " ++ others))
    (sym (first_text_is m bits) ∙ e ∙ first_text_is n others)) in
    record {
      numbers = same.numbers;
      states = append_cancel_left (codes "untestable from ") bits others same.rests;
    }

-- a line without a number and a space after `entry` begins no refutation from a state
pub no_first_number : (line after : List ℕ) → line ≡ codes "entry " ++ after
    → ((n : ℕ) (rest : List ℕ) → IsNumber n → after ≢ decimal n ++ codes " " ++ rest)
    → (n : ℕ) (bits : List ℕ) → IsNumber n → line ≢ first_text n bits
no_first_number line after is none n bits h e =
    none n (codes "untestable from " ++ bits) h
    (append_cancel_left (codes "entry ") after (decimal n ++ codes " " ++ (codes "untestable from " ++ bits))
    (sym is ∙ e ∙ first_text_is n bits))

-- a line without `untestable from` after its number begins no refutation from a state
pub no_first_word : (line after rest : List ℕ) (m : ℕ) → line ≡ codes "entry " ++ after → IsNumber m
    → after ≡ decimal m ++ codes " " ++ rest → ((bits : List ℕ) → rest ≢ codes "untestable from " ++ bits)
    → (n : ℕ) (bits : List ℕ) → IsNumber n → line ≢ first_text n bits
no_first_word line after rest m is counts at none n bits h e =
    let texts : after ≡ decimal n ++ codes " " ++ (codes "untestable from " ++ bits) =
    append_cancel_left (codes "entry ") after (decimal n ++ codes " " ++ (codes "untestable from " ++ bits))
    (sym is ∙ e ∙ first_text_is n bits) in
    none bits (number_front_same m n rest (codes "untestable from " ++ bits) counts.1 h.1 (sym at ∙ texts)).rests

-- a line that ends with the characters of no state begins no refutation from a state
pub no_first_state : (line bits : List ℕ) (m : ℕ) → IsNumber m → line ≡ first_text m bits
    → ((state : List Bool) → IsStateText state → bits ≢ vector_text state) → IsNoFirstLine line
no_first_state line bits m counts is none n state h e =
    none state h.1 (first_text_same m n bits (vector_text state) counts h.0 (sym is ∙ e)).states
