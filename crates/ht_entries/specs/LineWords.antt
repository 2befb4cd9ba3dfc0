-- What stands in the lines of a proofs text: numbers, tokens, places and bits. Indices count from 0, and their numbers in
-- the text from 1.
use Rattle.std.specs.Prelude.{◌<◌, ◌≤◌, ◌+◌, ℕ, List, [], ◌∷◌, ◌++◌, Bool, true, false, codes}
use Rattle.std.specs.Fmt.{decimal}
use Rattle.ht_texts.specs.Tests.{vector_text}
use Rattle.ht_tree.specs.declared.token.Token.{Token}
use Rattle.ht_tree.specs.declared.token.Token.TheVariants as token
use Rattle.ht_tree.specs.declared.window.Spot.{Spot}
use Rattle.ht_tree.specs.declared.window.Spot.TheVariants.{Output, State, Cube}

-- ---- their texts

-- a word, and the number of what has this index
abbrev pub numbered_from_1 : List ℕ → ℕ → List ℕ
numbered_from_1 word index = word ++ decimal (index + 1)

-- the line of a token: how many values its net was open to, and the number of its variable
abbrev pub token_text : Token → List ℕ
token_text (token.Two var false) = numbered_from_1 (codes "lo ") var
token_text (token.Two var true) = numbered_from_1 (codes "hi ") var
token_text (token.Three var) = numbered_from_1 (codes "x ") var
token_text token.Dead = codes "dead"
token_text token.Before = codes "before"

-- a told frame by its place, which is an output or a next state
abbrev pub frame_text : Spot → List ℕ
frame_text (Output o) = numbered_from_1 (codes "frame output ") o
frame_text (State j) = numbered_from_1 (codes "frame state ") j
frame_text Cube = []

-- a vector, or `-` where there are no inputs
abbrev pub bits_text : List Bool → List ℕ
bits_text [] = codes "-"
bits_text (bit ∷ bits) = vector_text (bit ∷ bits)

-- ---- which have a text

-- the greatest number in a text
abbrev pub max_number : ℕ
max_number = 4294967295

-- a number that may stand in a text: from 1 to the greatest
abbrev pub IsNumber : ℕ → Type 0
IsNumber number = (0 < number) × (number ≤ max_number)

-- an index whose number may stand in a text
abbrev pub IsIndex : ℕ → Type 0
IsIndex index = index < max_number

-- a token has a text, by its variable
abbrev pub IsTokenText : Token → Type 0
IsTokenText (token.Two var first) = IsIndex var
IsTokenText (token.Three var) = IsIndex var
IsTokenText token.Dead = Unit {0}
IsTokenText token.Before = Unit {0}

-- a told frame has a text, by its place: the place of none is a cube, which has no text
abbrev pub IsFrameText : Spot → Type 0
IsFrameText (Output o) = IsIndex o
IsFrameText (State j) = IsIndex j
IsFrameText Cube = ⊥
