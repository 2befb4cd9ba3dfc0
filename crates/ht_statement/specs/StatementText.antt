-- The normal text of a statement (ISCAS-89 format).
use Rattle.std.specs.Prelude.{◌≡◌, ℕ, List, [], ◌∷◌, ◌++◌, Bool, true, ◌&&◌, leb, length, codes}
use Rattle.std.specs.List.{list_all}
use Rattle.ht_tern.specs.declared.gate.Kind.{Kind}
use Rattle.ht_tern.specs.declared.gate.Kind.TheVariants.{And, Nand, Or, Nor, Xor, Xnor, Not, Buf}
use Rattle.ht_net.specs.Build.Named.{Name}
use Rattle.ht_statement.specs.Name.{is_name}
use Rattle.ht_statement.specs.Element.{gate_of, has_count}
use Rattle.ht_statement.specs.Statement.{Statement, blank_line, input_line, output_line, dff_line, gate_line, names_in}
use Rattle.ht_statement.specs.Reading.{stated, reading_of}

-- kinds in capitals, BUFF and not BUF
abbrev pub kind_text : Kind → List ℕ
kind_text And = codes "AND"
kind_text Nand = codes "NAND"
kind_text Or = codes "OR"
kind_text Nor = codes "NOR"
kind_text Xor = codes "XOR"
kind_text Xnor = codes "XNOR"
kind_text Not = codes "NOT"
kind_text Buf = codes "BUFF"

-- the arguments with a comma and a blank between two
abbrev pub arguments_text : List Name → List ℕ
arguments_text [] = []
arguments_text (name ∷ []) = name
arguments_text (name ∷ next ∷ more) = name ++ (codes ", " ++ arguments_text (next ∷ more))

-- the line that states it
abbrev pub statement_text : Statement → List ℕ
statement_text blank_line = []
statement_text (input_line name) = codes "INPUT(" ++ name ++ codes ")"
statement_text (output_line name) = codes "OUTPUT(" ++ name ++ codes ")"
statement_text (dff_line out data_pin) = out ++ codes " = DFF(" ++ data_pin ++ codes ")"
statement_text (gate_line out kind args) = out ++ codes " = " ++ kind_text kind ++ codes "(" ++ arguments_text args
    ++ codes ")"

-- the line with its LF
abbrev pub statement_line : Statement → List ℕ
statement_line statement = statement_text statement ++ codes "\n"

-- a gate of its kind may have this number of arguments
abbrev pub has_its_count : Statement → Bool
has_its_count (gate_line out kind args) = has_count (gate_of kind) (length args)
has_its_count statement = true

-- what a line can state: its names are names, and a gate has its count of arguments
pub record CanBeStated (statement : Statement) : Type 0 where
  pub names : list_all is_name (names_in statement) ≡ true
  pub count : has_its_count statement ≡ true

-- the normal text of what a line can state is a line that states it
abbrev pub NormalTextIsRead : Type 0
NormalTextIsRead = (statement : Statement) → CanBeStated statement → reading_of (statement_text statement)
    ≡ stated statement

-- a byte of printable text, or a blank
abbrev pub is_printable : ℕ → Bool
is_printable byte = leb 32 byte && leb byte 126

-- a normal text has only such bytes: it is one line, with no LF and no CR in it
abbrev pub NormalTextIsOneLine : Type 0
NormalTextIsOneLine = (statement : Statement) → CanBeStated statement → list_all is_printable (statement_text statement)
    ≡ true

-- what a line states is what a line can state
abbrev pub StatedIsSound : Type 0
StatedIsSound = (line : List ℕ) (statement : Statement) → reading_of line ≡ stated statement → CanBeStated statement
