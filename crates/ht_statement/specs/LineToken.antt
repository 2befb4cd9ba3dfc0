-- The tokens of a line (ISCAS-89 format).
use Rattle.std.specs.Prelude.{ℕ, List, [], ◌∷◌, ◌++◌, Bool, ◌||◌, cond, eqb, not, Option, Some, None}
use Rattle.std.specs.List.{take_while}
use Rattle.std.specs.Option.{option_map_or}

-- a word, or one of the four marks `(`, `)`, `,` and `=`
pub data LineToken : Type 0 where
  word_token : List ℕ → LineToken
  open_token : LineToken
  close_token : LineToken
  comma_token : LineToken
  equals_token : LineToken

-- a space or a tab
abbrev pub is_blank : ℕ → Bool
is_blank byte = eqb byte 32 || eqb byte 9

-- the token of a mark
abbrev pub mark_of : ℕ → Option LineToken
mark_of byte = cond (eqb byte 40) (Some open_token)
    (cond (eqb byte 41) (Some close_token)
    (cond (eqb byte 44) (Some comma_token) (cond (eqb byte 61) (Some equals_token) None)))

-- `#`
abbrev pub begins_comment : ℕ → Bool
begins_comment byte = eqb byte 35

-- from the first `#` on, a line is a comment
abbrev pub without_comment : List ℕ → List ℕ
without_comment line = take_while (λ byte. not (begins_comment byte)) line

-- a word that has ended, if it has any byte
abbrev pub ended : List ℕ → List LineToken
ended [] = []
ended (byte ∷ word) = word_token (byte ∷ word) ∷ []

-- The tokens of a text in front of which a word has begun: a blank ends the word, a mark ends it and is a token, any
-- other byte belongs to it.
abbrev pub tokens_after : List ℕ → List ℕ → List LineToken
tokens_after word [] = ended word
tokens_after word (byte ∷ text) = cond (is_blank byte) (ended word ++ tokens_after [] text)
    (option_map_or (λ mark. ended word ++ mark ∷ tokens_after [] text) (mark_of byte)
    (tokens_after (word ++ byte ∷ []) text))

-- the tokens of a line, from the left
abbrev pub tokens_of : List ℕ → List LineToken
tokens_of line = tokens_after [] (without_comment line)
