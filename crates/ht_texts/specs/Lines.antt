-- The text of a list of lines.
use Rattle.std.specs.Prelude.{ℕ, List, ◌++◌, codes, flat_map}

-- a line and its LF
abbrev pub with_lf : List ℕ → List ℕ
with_lf line = line ++ codes "\n"

-- the lines, each followed by its LF
abbrev pub with_lfs : List (List ℕ) → List ℕ
with_lfs lines = flat_map with_lf lines
