-- A number in a text.
use Rattle.std.specs.Prelude.{ℕ, List, ◌++◌}
use Rattle.std.specs.Fmt.{decimal}

-- a number in decimal digits between two texts
abbrev pub numbered : List ℕ → ℕ → List ℕ → List ℕ
numbered front number back = front ++ (decimal number ++ back)
