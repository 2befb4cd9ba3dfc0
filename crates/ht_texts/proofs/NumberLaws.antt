-- What is no text of a number.
use Rattle.std.proofs.Common.{◌≡◌, ℕ, ◌^◌, ◌<◌, List, Result, Ok, Err, subst, sym, arith}
use Rattle.std.specs.Fmt.{decimal}
use Rattle.std.specs.Str.{IsUtf8}
use Rattle.std.specs.Str.Parse.{ParsesUnsigned}
use Rattle.std.proofs.lemmas.Fmt.{IsAscii-decimal, parse-decimal}
use Rattle.std.proofs.lemmas.Str.{IsUtf8-from_ascii}
use Rattle.ht_texts.specs.Numbers.{IsNumberText}

-- the text of a number is UTF-8
pub number_is_utf8 : (most : ℕ) (text : List ℕ) (number : ℕ) → most < 2 ^ 64 → IsNumberText most text number
    → IsUtf8 text
number_is_utf8 most text number small is = subst IsUtf8 (sym is.digits)
    (IsUtf8-from_ascii (decimal number) (IsAscii-decimal number (omega (arith, is.bound))))

-- `parse` reads the number of a text
pub number_is_parsed : {E : Type 0} (most : ℕ) (text : List ℕ) (number : ℕ) (parsed : Result ℕ E) → most < 2 ^ 64
    → IsNumberText most text number → ParsesUnsigned 64 10 text parsed → parsed ≡ Ok number
number_is_parsed most text number parsed small is parses = parse-decimal 64 number text parsed
    (omega (arith, is.bound)) (omega (arith, is.bound)) is.digits parses

-- what `parse` refuses is no number's text
pub unparsed_is_no_number : {E : Type 0} (most : ℕ) (text digits : List ℕ) (error : E) → most < 2 ^ 64
    → digits ≡ text → ParsesUnsigned {E = E} 64 10 digits (Err error) → (number : ℕ) → ¬ IsNumberText most text number
unparsed_is_no_number {E} most text digits error small same parses number is =
    let parsed = number_is_parsed {E = E} most text number (Err error) small is
    (subst (λ t. ParsesUnsigned {E = E} 64 10 t (Err error)) same parses) in
    grind arith

-- nor is a text that `parse` reads as a number that is too great or has another text
pub other_is_no_number : (most : ℕ) (text digits : List ℕ) (read : ℕ) → most < 2 ^ 64 → digits ≡ text
    → ParsesUnsigned {E = ℕ} 64 10 digits (Ok read) → ¬ IsNumberText most text read → (number : ℕ)
    → ¬ IsNumberText most text number
other_is_no_number most text digits read small same parses differs number is =
    let parsed = number_is_parsed {E = ℕ} most text number (Ok read) small is
    (subst (λ t. ParsesUnsigned {E = ℕ} 64 10 t (Ok read)) same parses) in
    let equal : read ≡ number = grind arith in
    differs (subst (λ n. IsNumberText most text n) (sym equal) is)
