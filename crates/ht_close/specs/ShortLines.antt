-- Numbers that are short in the lines of an entry by cubes.
use Rattle.std.specs.Prelude.{ℕ}

-- A number below this has at most nine digits, so has the one after it.
abbrev pub short_number : ℕ
short_number = 999999999
