-- The forms of a line, as its tokens show them (ISCAS-89 format).
use Rattle.std.specs.Prelude.{ℕ, List, [], ◌∷◌, cond, Option, Some, None, option_map, codes}
use Rattle.std.specs.Str.{str_eq_ignore_ascii_case}
use Rattle.ht_statement.specs.LineToken.{LineToken, word_token, open_token, close_token, comma_token, equals_token}

-- nothing; INPUT or OUTPUT with a name; a definition by its net, the word of its kind and its arguments
pub data LineForm : Type 0 where
  blank_form : LineForm
  input_form : List ℕ → LineForm
  output_form : List ℕ → LineForm
  definition_form : List ℕ → List ℕ → List (List ℕ) → LineForm

-- the further arguments of a definition, each after a comma, and `)` at the end
abbrev pub further_arguments : List LineToken → Option (List (List ℕ))
further_arguments (close_token ∷ []) = Some []
further_arguments (comma_token ∷ word_token arg ∷ rest) = option_map (λ args. arg ∷ args) (further_arguments rest)
further_arguments _ = None

-- the arguments after `(`
abbrev pub arguments_of : List LineToken → Option (List (List ℕ))
arguments_of (close_token ∷ []) = Some []
arguments_of (word_token arg ∷ rest) = option_map (λ args. arg ∷ args) (further_arguments rest)
arguments_of _ = None

-- INPUT and OUTPUT, in any letter case
abbrev pub port_form : List ℕ → List ℕ → Option LineForm
port_form keyword name = cond (str_eq_ignore_ascii_case keyword (codes "INPUT")) (Some (input_form name))
    (cond (str_eq_ignore_ascii_case keyword (codes "OUTPUT")) (Some (output_form name)) None)

-- a line whose second token is `=` is a definition or has no form, so a net may be called INPUT
abbrev pub form_of : List LineToken → Option LineForm
form_of [] = Some blank_form
form_of (word_token out ∷ equals_token ∷ word_token kind ∷ open_token ∷ rest) = option_map (definition_form out kind)
    (arguments_of rest)
form_of (word_token keyword ∷ open_token ∷ word_token name ∷ close_token ∷ []) = port_form keyword name
form_of _ = None
