-- The words behind a command's name, read one by one into uses of its arguments.
use Rattle.std.specs.Prelude.{◌+◌, ℕ, Bool, true, false, List, [], ◌∷◌, ◌++◌, Option, Some, None}
use Rattle.std.specs.Prelude.{if◌then◌else◌, option_and_then, find, slice_get, zero, suc}
use Rattle.std.specs.List.{list_any}
use Rattle.std.specs.Str.{bytes_eq}
use Rattle.clap.specs.Lexer.{long_of, short_of}
use Rattle.clap.specs.Walk.{Text}
use Rattle.ht_asked.specs.Forms.{is_among, set}

-- a use: an argument's name and its value
abbrev pub Use : Type 0
Use = Text × Text

abbrev pub has_use : Text → List Use → Bool
has_use id uses = list_any (λ u. bytes_eq u.0 id) uses

-- one more use, of an argument that has none yet
abbrev pub add_use : Text → Text → List Use → Option (List Use)
add_use id value uses = if has_use id uses then None else Some (uses ++ (id, value) ∷ [])

-- what a word looks like: `--`, `--name` or `--name=value`, `-x`, or anything else
pub data Looks : Type 0 where
  ends : Looks
  names : Text → Option Text → Looks
  flags : Looks
  plain : Looks

abbrev pub looks_by : Option (Text × Option Text) → Option Text → Looks
looks_by (Some p) o = names p.0 p.1
looks_by None (Some f) = flags
looks_by None None = plain

-- after `--` each word is plain
abbrev pub looks : Bool → Text → Looks
looks true word = plain
looks false word = if bytes_eq word (45 ∷ 45 ∷ []) then ends
    else looks_by (long_of word) (short_of word)

-- what comes after a word: whether `--` was read, the option that waits for its value, the place of
-- the next positional, and the uses so far
abbrev pub Next : Type 0
Next = Bool → Option Text → ℕ → List Use → Option (List Use)

abbrev pub read_option : Bool → Option Text → Option Text → ℕ → List Use → Next → Option (List Use)
read_option flag None value place uses next = None
read_option false (Some id) (Some value) place uses next =
    option_and_then (next false None place) (add_use id value uses)
read_option false (Some id) None place uses next = next false (Some id) place uses
read_option true (Some id) (Some value) place uses next = None
read_option true (Some id) None place uses next =
    option_and_then (next false None place) (add_use id set uses)

abbrev pub read_positional : Option Text → Bool → Text → ℕ → List Use → Next → Option (List Use)
read_positional None ended word place uses next = None
read_positional (Some id) ended word place uses next =
    option_and_then (next ended None (place + 1)) (add_use id word uses)

-- a command's arguments: the name at each place, that of each option or flag, and whether it is a flag
pub record Arguments : Type 0 where
  pub at : ℕ → Option Text
  pub option : Text → Option Text
  pub flag : Text → Bool

abbrev pub read_word : Arguments → Looks → Option Text → Bool → Text → ℕ → List Use → Next
    → Option (List Use)
read_word args ends None ended word place uses next = next true None place uses
read_word args (names name value) None ended word place uses next =
    read_option (args.flag name) (args.option name) value place uses next
read_word args flags None ended word place uses next = None
read_word args plain None ended word place uses next =
    read_positional (args.at place) ended word place uses next
read_word args plain (Some id) ended word place uses next =
    option_and_then (next false None place) (add_use id word uses)
read_word args _ (Some id) ended word place uses next = None

-- the uses that the words make, where each of them can be read
unfoldable pub read : Arguments → Bool → Option Text → ℕ → List Use → List Text
    → Option (List Use)
read args ended None place uses [] = Some uses
read args ended (Some id) place uses [] = None
read args ended wants place uses (word ∷ rest) =
    read_word args (looks ended word) wants ended word place uses
    (λ e w p u. read args e w p u rest)

-- the positionals, from place 1 on, the options with the flags, and which of them are flags
abbrev pub place_in : List Text → ℕ → Option Text
place_in ids zero = None
place_in ids (suc k) = slice_get ids k

abbrev pub arguments : List Text → List Text → List Text → Arguments
arguments ids options alone = record {
  at = place_in ids;
  option = λ name. find (λ n. bytes_eq n name) options;
  flag = λ name. is_among name alone;
}
