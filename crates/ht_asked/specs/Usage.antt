-- The usage line, made of the table of the commands.
use Rattle.std.specs.Prelude.{◌&&◌, ◌++◌, ◌∷◌, ◌-◌, ℕ, List, [], codes, flat_map, if◌then◌else◌, map, nat_le}
use Rattle.clap.specs.Walk.{Text}
use Rattle.ht_asked.specs.Table.{Kind}
use Rattle.ht_asked.specs.Table.{Argument, Role, Row, command_row, file_made, file_read, kinds}
use Rattle.ht_asked.specs.Table.{says_depth, says_seed}

-- a letter from `a` to `z` as the capital, and any other character as it is
abbrev pub capital : ℕ → ℕ
capital c = if nat_le 97 c && nat_le c 122 then c - 32 else c

-- what stands for the value of an option
abbrev pub value_shown : Role → Text
value_shown (file_read port) = codes "FILE"
value_shown (file_made port) = codes "FILE"
value_shown says_seed = codes "S"
value_shown says_depth = codes "plain|deep|full"
value_shown role = codes "N"

-- a positional: its name in capitals
abbrev pub positional_shown : Argument → Text
positional_shown argument = codes " " ++ map capital argument.name

-- an option with its value, which may be left out
abbrev pub option_shown : Argument → Text
option_shown argument =
    codes " [--" ++ (argument.name ++ (codes " " ++ (value_shown argument.role ++ codes "]")))

-- a flag, which may be left out
abbrev pub flag_shown : Argument → Text
flag_shown argument = codes " [--" ++ (argument.name ++ codes "]")

-- a command with its positionals, its options and its flags
abbrev pub command_shown : Row → Text
command_shown row = row.name
    ++ (flat_map positional_shown row.positionals
    ++ (flat_map option_shown row.options ++ flat_map flag_shown row.flags))

-- these commands, with a comma between two, and the end of the line
abbrev pub commands_shown : List Kind → Text
commands_shown [] = codes "\n"
commands_shown (kind ∷ []) = command_shown (command_row kind) ++ codes "\n"
commands_shown (kind ∷ more) = command_shown (command_row kind)
    ++ (codes ", " ++ commands_shown more)

-- the line that says which forms words have
abbrev pub usage_line : Text
usage_line = codes "usage: " ++ commands_shown kinds
