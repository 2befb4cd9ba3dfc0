-- Numbers among the words.
use Rattle.std.specs.Prelude.{◌&&◌, ℕ, Bool, not, Option, Some, None, if◌then◌else◌, nat_le}
use Rattle.std.specs.List.{list_all}
use Rattle.std.specs.Str.Parse.{digits_value}
use Rattle.clap.specs.Lexer.{is_digit}
use Rattle.clap.specs.Walk.{Text, is_empty}

-- one or more of the characters `0` to `9`, and nothing else
abbrev pub is_number : Text → Bool
is_number text = not (is_empty text) && list_all is_digit text

-- the number that the text writes, where it is one from the least to the most; leading zeros don't matter
abbrev pub number_in : ℕ → ℕ → Text → Option ℕ
number_in least most text =
    if is_number text && (nat_le least (digits_value 10 text) && nat_le (digits_value 10 text) most)
    then Some (digits_value 10 text) else None

-- an option that is left out has its default
abbrev pub number_or : ℕ → ℕ → ℕ → Option Text → Option ℕ
number_or default least most None = Some default
number_or default least most (Some text) = number_in least most text
