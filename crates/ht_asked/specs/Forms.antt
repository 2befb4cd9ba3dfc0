-- The form of a command's words, and what words of that form give.
use Rattle.std.specs.Prelude.{◌==◌, ◌&&◌, ◌++◌, ◌∷◌, Bool, true, false, not, List, [], map, length, find}
use Rattle.std.specs.Prelude.{Option, Some, None, codes, if◌then◌else◌, option_and_then, option_map}
use Rattle.std.specs.List.{list_all, list_any}
use Rattle.std.specs.Str.{bytes_eq}
use Rattle.clap.specs.Lexer.{long_of}
use Rattle.clap.specs.Walk.{Text}

-- the names of the positionals, in their order and each of them wanted, those of the options, each with one value, and
-- those of the flags, which have none
pub record Form : Type 0 where
  pub positionals : List Text
  pub options : List Text
  pub flags : List Text

-- the names of the options and of the flags
abbrev pub named : Form → List Text
named form = form.options ++ form.flags

-- the text of each positional, and that of each option or flag or none, in the form's order; a flag's text is `true`
pub record Given : Type 0 where
  pub positionals : List Text
  pub options : List (Option Text)

-- the text of a flag among the words
abbrev pub set : Text
set = codes "true"

-- a word that is a positional, or an option's name and value, or a flag's name and `true`
pub data Part : Type 0 where
  positional : Text → Part
  option : Text → Text → Part

-- the word begins with a hyphen and has more after it: `-` is none
abbrev pub is_option : Text → Bool
is_option (first ∷ second ∷ rest) = first == 45
is_option _ = false

-- the parts after this one, where they are known, with it before them
abbrev pub with_part : Part → Option (List Part) → Option (List Part)
with_part part = option_map (λ parts. part ∷ parts)

-- `--name=value` is an option, and `--name` is one with the next word; `-n` is none. A flag is `--name` alone
abbrev pub with_value : Bool → Text → Option Text → (Option Text → Option (List Part))
    → Option (List Part)
with_value false name (Some value) rest = with_part (option name value) (rest None)
with_value false name None rest = rest (Some name)
with_value true name (Some value) rest = None
with_value true name None rest = with_part (option name set) (rest None)

-- an option by its name and its value, if it has one, or a flag; nothing where the word is none
abbrev pub with_option : (Text → Bool) → Option (Text × Option Text)
    → (Option Text → Option (List Part)) → Option (List Part)
with_option is_flag None rest = None
with_option is_flag (Some named) rest = with_value (is_flag named.0) named.0 named.1 rest

-- the parts of the words, where the option of this name waits for its value: no value looks like an option, and after
-- the first `--`, which is left out, each word is a positional
unfoldable pub parts : (Text → Bool) → Option Text → List Text → Option (List Part)
parts is_flag None [] = Some []
parts is_flag (Some name) [] = None
parts is_flag None (word ∷ words) = if bytes_eq word (codes "--") then Some (map positional words)
    else (if is_option word
    then with_option is_flag (long_of word) (λ waiting. parts is_flag waiting words)
    else with_part (positional word) (parts is_flag None words))
parts is_flag (Some name) (word ∷ words) = if is_option word then None
    else with_part (option name word) (parts is_flag None words)

-- the positionals among the parts, in their order
abbrev pub positionals_of : List Part → List Text
positionals_of [] = []
positionals_of (positional word ∷ rest) = word ∷ positionals_of rest
positionals_of (option name value ∷ rest) = positionals_of rest

-- the options among the parts, each a name and its value, in their order
abbrev pub options_of : List Part → List (Text × Text)
options_of [] = []
options_of (positional word ∷ rest) = options_of rest
options_of (option name value ∷ rest) = (name, value) ∷ options_of rest

-- the name is one of these
abbrev pub is_among : Text → List Text → Bool
is_among name = list_any (λ other. bytes_eq other name)

-- no name stands twice
abbrev pub all_differ : List Text → Bool
all_differ [] = true
all_differ (name ∷ names) = not (is_among name names) && all_differ names

-- the value after the name, where there is one
abbrev pub text_of : Text → List (Text × Text) → Option Text
text_of name options = option_map (λ o. o.1) (find (λ o. bytes_eq o.0 name) options)

-- what a flag's text is where it counts as set: any other text is none
abbrev pub set_text : Option Text → Option Text
set_text None = None
set_text (Some text) = if bytes_eq text set then Some text else None

-- the texts of a form's options, and then those of its flags, by their names
abbrev pub option_texts : Form → (Text → Option Text) → List (Option Text)
option_texts form text = map text form.options ++ map (λ name. set_text (text name)) form.flags

-- as many positionals as the form has, and options and flags of its own alone, none of them twice
abbrev pub fits_form : Form → List Part → Bool
fits_form form parts = length (positionals_of parts) == length form.positionals
    && (list_all (λ o. is_among o.0 (named form)) (options_of parts)
    && all_differ (map (λ o. o.0) (options_of parts)))

-- what the parts give to the form, where they have it
abbrev pub given_by : Form → List Part → Option Given
given_by form parts = if fits_form form parts then Some (record {
  positionals = positionals_of parts;
  options = option_texts form (λ name. text_of name (options_of parts));
}) else None

-- what the words after a command's name give, where they have the form
unfoldable pub given : Form → List Text → Option Given
given form words = option_and_then (given_by form)
    (parts (λ name. is_among name form.flags) None words)
