-- How a number among the words is read.
use Rattle.std.proofs.Common.{◌≡◌, ◌∙◌, ◌∷◌, ◌<◌, ◌≤◌, ◌^◌, ℕ, Bool, true, false, not, cond, [], length, Option, Some, None, Result, Ok, Err, refl, sym, ap, arith, slice_index, ◌&&◌, ◌==◌}
use Rattle.std.specs.Prelude.{nat_le}
use Rattle.std.specs.List.{list_all}
use Rattle.std.specs.Result.{OkIff}
use Rattle.std.specs.Str.Parse.{ParsesUnsigned, digits_value}
use Rattle.std.proofs.lemmas.Bool.{le-leb, leb-true, ne_eqb}
use Rattle.std.proofs.lemmas.Bool.Decides.{Decides-eqb}
use Rattle.std.proofs.lemmas.Str.Parse.{IsDigitsTest, numerals_by_value, parse_plain}
use Rattle.clap.specs.Lexer.{is_digit}
use Rattle.clap.specs.Walk.{Text, is_empty}
use Rattle.clap.proofs.WalkLemmas.{both}
use Rattle.ht_asked.specs.Numbers.{is_number, number_in}

abbrev AreDigits : Text → Type 0
AreDigits text = list_all is_digit text ≡ true

tells_digits : IsDigitsTest AreDigits
tells_digits = record {
  empty = refl;
  parts = λ c cs e.
      let digit = both (is_digit c) (list_all is_digit cs) e in
      let range = both (nat_le 48 c) (nat_le c 57) digit.0 in
      ((leb-true 48 c range.0, leb-true c 57 range.1), digit.1);
  more = λ c cs range rest i. (le-leb 48 c range.0 i && le-leb c 57 range.1 i) && rest i;
}

has_some : (t : Text) → 0 < length t → is_empty t ≡ false
has_some t some = ne_eqb (length t) 0 (λ e. omega (arith, e, some))

some_length : (t : Text) → not (is_empty t) ≡ true → 0 < length t
some_length [] e = cc
some_length (c ∷ cs) e = omega arith

abbrev value : Text → ℕ
value text = digits_value 10 text

abbrev in_range : ℕ → ℕ → ℕ → Bool
in_range least most number = nat_le least number && nat_le number most

abbrev given : Bool → ℕ → Option ℕ
given b number = cond b (Some number) None

-- of a text that begins with no plus
module _ (E : Type 0) (text : Text) (plain : false ≡ (slice_index text 0 == 43)) where
  -- it is read as the number that its digits write
  parsed : (r : Result ℕ E) → ParsesUnsigned 64 10 text r
      → OkIff r (AreDigits text × (0 < length text) × (value text < 2 ^ 64)) (value text)
  parsed r parses = parse_plain (numerals_by_value AreDigits tells_digits) 64 text r parses
      (λ e. let bad : false ≡ true = plain ∙ (Decides-eqb (slice_index text 0) 43).1 e in cc)

  -- a text that begins with no plus and is parsed as a number in the range is read as that number
  pub read_is_in : (least most number : ℕ) → ParsesUnsigned {E = E} 64 10 text (Ok number) → least ≤ number
      → number ≤ most → number_in least most text ≡ Some number
  read_is_in least most number parses above below =
      let is = parsed (Ok number) parses in
      ap (λ b. given ((not b && list_all is_digit text) && in_range least most (value text)) (value text))
      (has_some text is.0.1)
      ∙ ap (λ b. given (b && in_range least most (value text)) (value text)) is.0.0
      ∙ ap (λ n. given (in_range least most n) n) (sym is.1)
      ∙ ap (λ b. given (b && nat_le number most) number) (le-leb least number above)
      ∙ ap (λ b. given b number) (le-leb number most below)

  -- a text that begins with no plus and can't be parsed is no number in a range below 2^64
  pub unread_is_none : (least most : ℕ) (error : E) → most < 2 ^ 64 → ParsesUnsigned {E = E} 64 10 text (Err error)
      → number_in least most text ≡ None
  unread_is_none least most error small parses = go (is_number text) refl (in_range least most (value text)) refl
    where
      go : (a : Bool) → is_number text ≡ a → (b : Bool) → in_range least most (value text) ≡ b
          → given (a && b) (value text) ≡ None
      go false e b f = refl
      go true e false f = refl
      go true e true f =
          let digits = both (not (is_empty text)) (list_all is_digit text) e in
          let range = both (nat_le least (value text)) (nat_le (value text) most) f in
          absurd (parsed (Err error) parses (
            digits.1,
            some_length text digits.0,
            omega (arith, small, leb-true (value text) most range.1),
          ))
