-- What the first token of a text is not.
use Rattle.std.specs.Prelude.{◌≢◌, ℕ, List, ◌∷◌}
use Rattle.ht_statement.specs.LineToken.{LineToken, word_token, comma_token, tokens_of}

-- no word comes next
abbrev pub FirstIsNoWord : List ℕ → Type 0
FirstIsNoWord text = (word : List ℕ) (rest : List LineToken) → tokens_of text ≢ word_token word ∷ rest

-- no comma comes next
abbrev pub FirstIsNoComma : List ℕ → Type 0
FirstIsNoComma text = (rest : List LineToken) → tokens_of text ≢ comma_token ∷ rest
