-- What the words of the command line ask for, by `clap`'s definition of each command.
use Rattle.std.specs.Prelude.{◌∷◌, ◌++◌, Bool, true, List, [], Option, Some, None, if◌then◌else◌}
use Rattle.std.specs.Prelude.{map, option_and_then, option_map}
use Rattle.clap.specs.Walk.{Row, Rule, Text, first_of, is_empty}
use Rattle.clap.specs.Simple.{App, matches_of, new_app, new_rule, on_top}
use Rattle.clap.specs.Faults.{fault_of}
use Rattle.clap.specs.declared.builder.action.ArgAction.TheVariants.{SetTrue}
use Rattle.ht_asked.specs.Forms.{Form, Given, option_texts}
use Rattle.ht_asked.specs.Asked.{Asked}
use Rattle.ht_asked.specs.Commands.{Command, asked_in}

-- a command that takes no request for help or for a version
abbrev pub app_named : Text → App
app_named name =
    on_top (λ s. record s { disable_help_flag = true; disable_version_flag = true }) (new_app name)

-- a positional argument that has to be there
abbrev pub wanted : Text → Rule
wanted id = record (new_rule id) { required = true }

-- an option of this name
abbrev pub optional : Text → Rule
optional id = record (new_rule id) { long = Some id }

-- a flag of this name: its value is `true` where it is given, and else `false`
abbrev pub switch : Text → Rule
switch id = record (new_rule id) { long = Some id; action = Some SetTrue }

-- a command with these arguments: each by its own rule, the positionals first, and the flags last
abbrev pub app_with : Text → Form → App
app_with name form = on_top (λ s. record s {
  rules = (map wanted form.positionals ++ map optional form.options) ++ map switch form.flags;
}) (app_named name)

-- `clap` takes the words
abbrev pub is_taken : App → List Text → Bool
is_taken app words = is_empty (fault_of app words)

-- the value that `clap` gives to an argument
abbrev pub value_of : App → List Text → Text → Option Text
value_of app words id = first_of id (matches_of app words)

-- the values after the first, where none is missing, with the first before them, where it isn't missing either
abbrev pub all_with : Option Text → Option (List Text) → Option (List Text)
all_with None rest = None
all_with (Some value) rest = option_map (λ values. value ∷ values) rest

-- all the values, where none is missing
abbrev pub all_of : List (Option Text) → Option (List Text)
all_of [] = Some []
all_of (value ∷ rest) = all_with value (all_of rest)

-- what these values give to the arguments of a form
abbrev pub given_values : Form → (Text → Option Text) → Option Given
given_values form value = option_map (λ texts. record {
  positionals = texts;
  options = option_texts form value;
}) (all_of (map value form.positionals))

-- what a command's words ask for, by the rows in which `clap` gives the values
abbrev pub asked_in_rows : Command → List Row → Option Asked
asked_in_rows c rows = option_and_then c.asks (given_values c.form (λ id. first_of id rows))

-- what the words give to the form's arguments, where `clap` takes them; the first word is the command's name
abbrev pub given_by_clap : App → Form → List Text → Option Given
given_by_clap app form words =
    if is_taken app words then given_values form (value_of app words) else None

-- what the words ask for, where `clap` takes them by the definition of this command
unfoldable pub command_by_clap : Command → List Text → Option Asked
command_by_clap c words =
    option_and_then c.asks (given_by_clap (app_with c.name c.form) c.form words)

-- what all the words ask for: `clap` is given the command's name with them
unfoldable pub asked_by_clap : List Text → Option Asked
asked_by_clap words =
    asked_in (λ c rest. given_by_clap (app_with c.name c.form) c.form (c.name ∷ rest)) words
