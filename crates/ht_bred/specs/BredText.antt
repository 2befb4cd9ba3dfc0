-- What is said of vectors that were bred.
use Rattle.std.specs.Prelude.{ℕ, List, ◌++◌, codes}
use Rattle.std.specs.Fmt.{decimal}

-- how many vectors were given and how many bred, and how many of so many representatives all of them detect; without the
-- LF
abbrev pub bred_line : ℕ → ℕ → ℕ → ℕ → List ℕ
bred_line given bred detected classes =
    codes "vectors " ++ decimal given ++ codes " bred " ++ decimal bred
    ++ codes " detected " ++ decimal detected ++ codes " of " ++ decimal classes
