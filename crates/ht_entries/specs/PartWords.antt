-- What several forms of an entry have: walks, flip-flops that rise, and what a line more asks of them.
use Rattle.std.specs.Prelude.{ℕ, List, [], ◌∷◌, map, Bool, true, false, ltb, Option, Some, None}
use Rattle.std.specs.List.{All}
use Rattle.ht_tree.specs.declared.token.Token.{Token}
use Rattle.ht_tree.specs.Record.Rising.{Rises}
use Rattle.ht_entries.specs.declared.proof_line.ProofLine.{ProofLine}
use Rattle.ht_entries.specs.declared.proof_line.ProofLine.TheVariants as line
use Rattle.ht_entries.specs.LineWords.{IsIndex, IsTokenText}

-- ---- lines

-- the line that begins a walk and a line for each of its tokens, if there is a walk
abbrev pub walk_lines : Option (List Token) → List ProofLine
walk_lines None = []
walk_lines (Some tokens) = line.Walk ∷ map line.Token tokens

-- ---- which have a text

-- each token of a walk has a text
abbrev pub AreTokenTexts : List Token → Type 0
AreTokenTexts tokens = All IsTokenText tokens

-- indices that rise
pub record AreRisingIndices (list : List ℕ) : Type 0 where
  pub each : All IsIndex list
  pub rises : Rises list

-- a walk has a text where it is there and each of its tokens has one; one that is missing has none to have
abbrev pub IsWalkText : Option (List Token) → Type 0
IsWalkText None = Unit {0}
IsWalkText (Some tokens) = AreTokenTexts tokens

-- ---- a line more

-- x where a test holds
abbrev pub where_true : {A : Type 0} → Bool → A → Option A
where_true true x = Some x
where_true false x = None

-- what a test lets through
abbrev pub only_where : {A : Type 0} → Bool → Option A → Option A
only_where true x = x
only_where false x = None

-- above the last number of a list
abbrev pub is_above : List ℕ → ℕ → Bool
is_above [] j = true
is_above (k ∷ []) j = ltb k j
is_above (k ∷ l ∷ list) j = is_above (l ∷ list) j
