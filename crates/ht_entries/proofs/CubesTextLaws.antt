-- The words in the lines of an entry by cubes, and its rails: the text shows which they are.
use Rattle.std.proofs.Common.{◌≡◌, ◌≢◌, ◌⊎◌, inl, inr, ℕ, ◌+◌, ◌-◌, ◌<◌, ◌≤◌, Bool, true, false, List, [], ◌∷◌, ◌++◌, length, append_assoc, refl, sym, ap, ◌∙◌, subst, arith}
use Rattle.std.specs.Prelude.{codes, get_or, not, eqb}
use Rattle.std.specs.Fmt.{decimal}
use Rattle.std.specs.List.{All, list_all}
use Rattle.std.specs.Str.Parse.{AllDigits}
use Rattle.std.proofs.lemmas.Bool.{and_parts, eq-eqb, true≢false}
use Rattle.std.proofs.lemmas.Fmt.{decimal_is_IsNumeral, decimal_injective}
use Rattle.std.proofs.lemmas.Str.Parse.{digit_from_value}
use Rattle.std.proofs.lemmas.List.{append-nil}
use Rattle.std.proofs.lemmas.List.Elements.{All-nil, All-cons}
use Rattle.ht_texts.specs.Tests.{bit_code}
use Rattle.ht_cubes.specs.declared.rail.Rail.{Rail}
use Rattle.ht_cubes.specs.declared.signed_var.SignedVar.{SignedVar}
use Rattle.ht_entries.specs.LineWords.{max_number, IsNumber}
use Rattle.ht_entries.specs.ItemTexts.{spaced, AreItems, HasNoItem, IsDelimited, IsNextItem, SameItem}
use Rattle.ht_entries.specs.ByCubes.{bit_word, machine_word, rail_text, sign_text, signed_word, hints_text, IsAnyBit, IsRailText, IsSignedText}
use Rattle.ht_entries.proofs.SpaceLaws.{IsNoSpace, number_has_no_space}
use Rattle.ht_entries.proofs.ItemLaws.{item_delimits, words_are_items}

abbrev byte : List ℕ → ℕ → ℕ
byte text i = get_or text i 0

abbrev rest_of : List ℕ → List ℕ
rest_of [] = []
rest_of (x ∷ xs) = xs

-- bytes none of which is a space
abbrev is_other : ℕ → Bool
is_other x = not (eqb x 32)

by_bytes : (xs : List ℕ) → list_all is_other xs ≡ true → All IsNoSpace xs
by_bytes [] e = All-nil IsNoSpace
by_bytes (x ∷ xs) e =
    let parts = and_parts (is_other x) (list_all is_other xs) e in
    All-cons IsNoSpace x xs (λ space. true≢false (sym parts.0 ∙ ap not (eq-eqb x 32 space))) (by_bytes xs parts.1)

-- ---- numbers

-- numbers up to the greatest in a text are the same if their decimal texts are
pub numbers_same : (m n : ℕ) → m ≤ max_number → n ≤ max_number → decimal m ≡ decimal n → m ≡ n
numbers_same m n h k e = decimal_injective m n (omega (arith, h)) (omega (arith, k)) e

-- a number that may stand in a text has no space in its digits
pub number_plain : (n : ℕ) → IsNumber n → All IsNoSpace (decimal n)
number_plain n h = number_has_no_space n h.1

-- numbers, each after a space, are items: a text begins with no two of them
pub numbers_are_items : AreItems (spaced decimal) IsNumber
numbers_are_items = words_are_items decimal IsNumber number_plain (λ m n h k. numbers_same m n h.1 k.1)

-- the first byte of digits is one of a digit
digits_begin : (ds rest : List ℕ) → 0 < length ds → AllDigits 10 ds
    → (48 ≤ byte (ds ++ rest) 0) × (byte (ds ++ rest) 0 ≤ 57)
digits_begin [] rest some h = absurd (omega (arith, some))
digits_begin (d ∷ ds) rest some h = let d_is = digit_from_value d h.0 in (d_is.0, d_is.1)

-- a text that begins with a number begins with a digit
pub number_begins : (n : ℕ) (rest : List ℕ) → n ≤ max_number
    → (48 ≤ byte (decimal n ++ rest) 0) × (byte (decimal n ++ rest) 0 ≤ 57)
number_begins n rest h =
    let numeral = (decimal_is_IsNumeral n (omega (arith, h))).0 in
    digits_begin (decimal n) rest numeral.0 numeral.1

-- ---- signed variables

abbrev pub signed_of : ℕ → Bool → SignedVar
signed_of variable value = record { variable = variable; value = value }

-- a text that begins with a number doesn't begin with a hyphen
pub no_minus : (n : ℕ) (rest more : List ℕ) → n ≤ max_number → decimal n ++ rest ≡ 45 ∷ more → ⊥
no_minus n rest more h e = omega (arith, (number_begins n rest h).0, ap (λ t. byte t 0) e)

minus_number : (m n : ℕ) → m ≤ max_number → decimal m ≡ 45 ∷ decimal n → ⊥
minus_number m n h e = no_minus m [] (decimal n) h (append-nil (decimal m) ∙ e)

signs_same : (m n : ℕ) (v w : Bool) → IsNumber m → IsNumber n
    → signed_word (signed_of m v) ≡ signed_word (signed_of n w) → signed_of m v ≡ signed_of n w
signs_same m n true true h k e = ap (λ x. signed_of x true) (numbers_same m n h.1 k.1 e)
signs_same m n false false h k e = ap (λ x. signed_of x false) (numbers_same m n h.1 k.1 (ap rest_of e))
signs_same m n true false h k e = absurd (minus_number m n h.1 e)
signs_same m n false true h k e = absurd (minus_number n m k.1 (sym e))

-- signed variables with the same text are the same
pub signed_same : (x y : SignedVar) → IsSignedText x → IsSignedText y → signed_word x ≡ signed_word y → x ≡ y
signed_same x y h k e = signs_same x.variable y.variable x.value y.value h k e

sign_plain : (n : ℕ) (value : Bool) → IsNumber n → All IsNoSpace (signed_word (signed_of n value))
sign_plain n true h = number_plain n h
sign_plain n false h = All-cons IsNoSpace 45 (decimal n) (λ e. omega (arith, e)) (number_plain n h)

-- the text of a signed variable has no space
pub signed_plain : (x : SignedVar) → IsSignedText x → All IsNoSpace (signed_word x)
signed_plain x h = sign_plain x.variable x.value h

-- signed variables, each after a space, are items: a text begins with no two of them
pub signed_are_items : AreItems (spaced signed_word) IsSignedText
signed_are_items = words_are_items signed_word IsSignedText signed_plain signed_same

-- after a hyphen stands no number
no_negative_of : (word digits : List ℕ) → word ≡ codes "-" ++ digits
    → ((n : ℕ) → IsNumber n → digits ≢ decimal n) → (n : ℕ) (value : Bool) → IsNumber n
    → word ≢ signed_word (signed_of n value)
no_negative_of word digits is none n false counts e = none n counts (ap rest_of (sym is ∙ e))
no_negative_of word digits is none n true counts e =
    no_minus n [] digits counts.1 (append-nil (decimal n) ∙ sym e ∙ is)

-- a hyphen and no number after it are no signed variable
pub no_negative : (word digits : List ℕ) → word ≡ codes "-" ++ digits
    → ((n : ℕ) → IsNumber n → digits ≢ decimal n) → (x : SignedVar) → IsSignedText x → word ≢ signed_word x
no_negative word digits is none x = no_negative_of word digits is none x.variable x.value

-- nor is there a hyphen or a number
no_positive_of : (word : List ℕ) → ((rest : List ℕ) → word ≢ codes "-" ++ rest)
    → ((n : ℕ) → IsNumber n → word ≢ decimal n) → (n : ℕ) (value : Bool) → IsNumber n
    → word ≢ signed_word (signed_of n value)
no_positive_of word no_hyphen none n false counts e = no_hyphen (decimal n) e
no_positive_of word no_hyphen none n true counts e = none n counts e

-- a word that has no hyphen in front and is no number is no signed variable
pub no_positive : (word : List ℕ) → ((rest : List ℕ) → word ≢ codes "-" ++ rest)
    → ((n : ℕ) → IsNumber n → word ≢ decimal n) → (x : SignedVar) → IsSignedText x → word ≢ signed_word x
no_positive word no_hyphen none x = no_positive_of word no_hyphen none x.variable x.value

-- the word before the hints is no signed variable
signed_begins : (n : ℕ) (value : Bool) (rest : List ℕ) → IsNumber n
    → byte (signed_word (signed_of n value) ++ rest) 0 ≤ 57
signed_begins n true rest h = (number_begins n rest h.1).1
signed_begins n false rest h = omega arith

-- the hints of a step begin with no signed variable
pub by_is_no_signed : (hints : List ℕ) → HasNoItem (spaced signed_word) IsSignedText (hints_text hints)
by_is_no_signed hints x rest h d e =
    omega (arith, signed_begins x.variable x.value rest h, ap (λ t. byte t 1) e)

-- ---- machines and bits

module _ (word_of : Bool → List ℕ) where
  two_plain : list_all is_other (word_of false) ≡ true → list_all is_other (word_of true) ≡ true → (bit : Bool)
      → IsAnyBit bit → All IsNoSpace (word_of bit)
  two_plain off on false h = by_bytes (word_of false) off
  two_plain off on true h = by_bytes (word_of true) on

  two_same : (word_of false ≡ word_of true → ⊥) → (x y : Bool) → IsAnyBit x → IsAnyBit y → word_of x ≡ word_of y
      → x ≡ y
  two_same differ false false h k e = refl
  two_same differ true true h k e = refl
  two_same differ false true h k e = absurd (differ e)
  two_same differ true false h k e = absurd (differ (sym e))

-- the word of a machine has no space
pub machine_plain : (faulty : Bool) → IsAnyBit faulty → All IsNoSpace (machine_word faulty)
machine_plain = two_plain machine_word refl refl

-- words of machines, each after a space, are items: a text begins with no two of them
pub machines_are_items : AreItems (spaced machine_word) IsAnyBit
machines_are_items =
    words_are_items machine_word IsAnyBit machine_plain
    (two_same machine_word (λ e. omega (arith, ap (λ t. byte t 0) e)))

-- the word of a bit has no space
pub bit_plain : (bit : Bool) → IsAnyBit bit → All IsNoSpace (bit_word bit)
bit_plain = two_plain bit_word refl refl

-- bits, each after a space, are items: a text begins with no two of them
pub bits_are_items : AreItems (spaced bit_word) IsAnyBit
bits_are_items =
    words_are_items bit_word IsAnyBit bit_plain (two_same bit_word (λ e. omega (arith, ap (λ t. byte t 0) e)))

-- ---- rails

abbrev pub rail_of : Bool → ℕ → Bool → Rail
rail_of faulty dff value = record { faulty = faulty; dff = dff; value = value }

-- a rail is its three words, one after the other
pub rail_parts : (rail : Rail) (rest : List ℕ) → rail_text rail ++ rest
    ≡ spaced machine_word rail.faulty ++ (spaced decimal (rail.dff + 1) ++ (spaced bit_word rail.value ++ rest))
rail_parts rail rest =
    append_assoc (spaced machine_word rail.faulty) (spaced decimal (rail.dff + 1) ++ spaced bit_word rail.value) rest
    ∙ ap (λ t. spaced machine_word rail.faulty ++ t)
    (append_assoc (spaced decimal (rail.dff + 1)) (spaced bit_word rail.value) rest)

number_of : (dff : ℕ) → dff < max_number → IsNumber (dff + 1)
number_of dff h = (omega arith, omega (arith, h))

abbrev bit_rest : Rail → List ℕ → List ℕ
bit_rest rail rest = spaced bit_word rail.value ++ rest

abbrev number_rest : Rail → List ℕ → List ℕ
number_rest rail rest = spaced decimal (rail.dff + 1) ++ bit_rest rail rest

bit_delimits : (rail : Rail) (rest : List ℕ) → IsDelimited (bit_rest rail rest)
bit_delimits rail rest = item_delimits (spaced bit_word) IsAnyBit bits_are_items rail.value rest

number_delimits : (rail : Rail) (rest : List ℕ) → IsDelimited (number_rest rail rest)
number_delimits rail rest =
    item_delimits (spaced decimal) IsNumber numbers_are_items (rail.dff + 1) (bit_rest rail rest)

-- what follows the machine of a rail that a text begins with
machine_then : (text after rest : List ℕ) (faulty : Bool) (rail : Rail)
    → IsNextItem (spaced machine_word) IsAnyBit text faulty after → text ≡ rail_text rail ++ rest
    → SameItem faulty rail.faulty after (number_rest rail rest)
machine_then text after rest faulty rail next e =
    machines_are_items.same faulty rail.faulty after (number_rest rail rest) tt tt next.ends
    (number_delimits rail rest) (sym next.parts ∙ e ∙ rail_parts rail rest)

-- and what follows its number
number_then : (text after rest : List ℕ) (number : ℕ) (rail : Rail) → IsRailText rail
    → IsNextItem (spaced decimal) IsNumber text number after → text ≡ number_rest rail rest
    → SameItem number (rail.dff + 1) after (bit_rest rail rest)
number_then text after rest number rail h next e =
    numbers_are_items.same number (rail.dff + 1) after (bit_rest rail rest) next.has_text (number_of rail.dff h)
    next.ends (bit_delimits rail rest) (sym next.parts ∙ e)

-- a text that begins with no machine begins with no rail
pub no_machine_no_rail : (text : List ℕ) → HasNoItem (spaced machine_word) IsAnyBit text
    → HasNoItem rail_text IsRailText text
no_machine_no_rail text none = λ rail rest h d e.
    none rail.faulty (number_rest rail rest) tt (number_delimits rail rest) (e ∙ rail_parts rail rest)

-- a text with no number after its machine begins with no rail
pub no_number_no_rail : (text after : List ℕ) (faulty : Bool)
    → IsNextItem (spaced machine_word) IsAnyBit text faulty after → HasNoItem (spaced decimal) IsNumber after
    → HasNoItem rail_text IsRailText text
no_number_no_rail text after faulty machine none = λ rail rest h d e.
    none (rail.dff + 1) (bit_rest rail rest) (number_of rail.dff h) (bit_delimits rail rest)
    (machine_then text after rest faulty rail machine e).rests

-- a text with no bit after its machine and its number begins with no rail
pub no_bit_no_rail : (text after end : List ℕ) (faulty : Bool) (number : ℕ)
    → IsNextItem (spaced machine_word) IsAnyBit text faulty after
    → IsNextItem (spaced decimal) IsNumber after number end → HasNoItem (spaced bit_word) IsAnyBit end
    → HasNoItem rail_text IsRailText text
no_bit_no_rail text after end faulty number machine counts none = λ rail rest h d e.
    none rail.value rest tt d
    (number_then after end rest number rail h counts (machine_then text after rest faulty rail machine e).rests).rests

-- a text that begins with a machine, a number and a bit begins with their rail
pub rail_is_next : (text after end rest : List ℕ) (faulty : Bool) (number : ℕ) (value : Bool)
    → IsNextItem (spaced machine_word) IsAnyBit text faulty after
    → IsNextItem (spaced decimal) IsNumber after number end → IsNextItem (spaced bit_word) IsAnyBit end value rest
    → IsNextItem rail_text IsRailText text (rail_of faulty (number - 1) value) rest
rail_is_next text after end rest faulty number value machine counts bit =
    let before : number ≡ number - 1 + 1 = omega (arith, counts.has_text.0) in record {
      parts = machine.parts
          ∙ ap (λ t. spaced machine_word faulty ++ t)
          (counts.parts ∙ ap (λ t. spaced decimal number ++ t) bit.parts
          ∙ ap (λ n. spaced decimal n ++ (spaced bit_word value ++ rest)) before)
          ∙ sym (rail_parts (rail_of faulty (number - 1) value) rest);
      has_text = omega (arith, counts.has_text.0, counts.has_text.1);
      ends = bit.ends;
    }

rails_alike : (a b : Rail) → a.faulty ≡ b.faulty → a.dff ≡ b.dff → a.value ≡ b.value → a ≡ b
rails_alike a b f d v =
    ap (λ x. rail_of x a.dff a.value) f ∙ ap (λ x. rail_of b.faulty x a.value) d
    ∙ ap (λ x. rail_of b.faulty b.dff x) v

rails_same : (a b : Rail) (rest more : List ℕ) → IsRailText a → IsRailText b → IsDelimited rest → IsDelimited more
    → rail_text a ++ rest ≡ rail_text b ++ more → SameItem a b rest more
rails_same a b rest more h k d c e =
    let machine = machines_are_items.same a.faulty b.faulty (number_rest a rest) (number_rest b more) tt tt
    (number_delimits a rest) (number_delimits b more) (sym (rail_parts a rest) ∙ e ∙ rail_parts b more) in
    let number = numbers_are_items.same (a.dff + 1) (b.dff + 1) (bit_rest a rest) (bit_rest b more)
    (number_of a.dff h) (number_of b.dff k) (bit_delimits a rest) (bit_delimits b more) machine.rests in
    let bit = bits_are_items.same a.value b.value rest more tt tt d c number.rests in
    record {
      items = rails_alike a b machine.items (omega (arith, number.items)) bit.items;
      rests = bit.rests;
    }

rail_begins : (rail : Rail) → (more : List ℕ) × (rail_text rail ≡ 32 ∷ more)
rail_begins rail = (
  machine_word rail.faulty ++ (spaced decimal (rail.dff + 1) ++ spaced bit_word rail.value),
  refl,
)

-- rails are items: a text begins with no two of them
pub rails_are_items : AreItems rail_text IsRailText
rails_are_items = record {
  begins = λ rail. rail_begins rail;
  same = λ a b rest more h k d c e. rails_same a b rest more h k d c e;
}
