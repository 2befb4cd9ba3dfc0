-- What a line states, or why it is refused (ISCAS-89 format).
use Rattle.std.specs.Prelude.{◌≡◌, ℕ, List, [], ◌∷◌, cond, length, get_or, Option, Some, None}
use Rattle.std.specs.List.{list_all}
use Rattle.ht_net.specs.Build.Named.{Name}
use Rattle.ht_statement.specs.LineToken.{tokens_of}
use Rattle.ht_statement.specs.LineForm.{LineForm, blank_form, input_form, output_form, definition_form, form_of}
use Rattle.ht_statement.specs.Name.{is_name}
use Rattle.ht_statement.specs.Element.{Element, flip_flop, gate_of, element_named, has_count}
use Rattle.ht_statement.specs.Statement.{Statement, blank_line, input_line, output_line, dff_line, gate_line}
use Rattle.ht_statement.specs.declared.error.LineRefusal.{LineRefusal}
use Rattle.ht_statement.specs.declared.error.LineRefusal.TheVariants.{BadLine, BadName, BadKind, BadCount}
use Rattle.ht_statement.specs.declared.error.StatementError.{StatementError}
use Rattle.ht_statement.specs.declared.error.StatementError.TheVariants.{Refused, NoMemory}

-- what the reading of a line comes to
pub data Reading : Type 0 where
  stated : Statement → Reading
  unreadable : LineRefusal → Reading

-- a definition of an element, by its net and its arguments
abbrev pub defined : Name → List Name → Element → Statement
defined out args flip_flop = dff_line out (get_or args 0 [])
defined out args (gate_of kind) = gate_line out kind args

-- a definition by the element that its kind names, whose count of arguments is judged last
abbrev pub definition_reading : Name → List Name → Option Element → Reading
definition_reading out args None = unreadable BadKind
definition_reading out args (Some element) = cond (has_count element (length args)) (stated (defined out args element))
    (unreadable BadCount)

-- names are judged first, then the kind, then the count
abbrev pub form_reading : LineForm → Reading
form_reading blank_form = stated blank_line
form_reading (input_form name) = cond (is_name name) (stated (input_line name)) (unreadable BadName)
form_reading (output_form name) = cond (is_name name) (stated (output_line name)) (unreadable BadName)
form_reading (definition_form out kind args) = cond (list_all is_name (out ∷ args))
    (definition_reading out args (element_named kind)) (unreadable BadName)

-- a line whose tokens have no form is a bad line
abbrev pub tokens_reading : Option LineForm → Reading
tokens_reading None = unreadable BadLine
tokens_reading (Some form) = form_reading form

-- what a line states, or why it is refused
abbrev pub reading_of : List ℕ → Reading
reading_of line = tokens_reading (form_of (tokens_of line))

-- why a line isn't read; memory may run out at any line
abbrev pub IsRefusalOf : List ℕ → StatementError → Type 0
IsRefusalOf line (Refused refusal) = reading_of line ≡ unreadable refusal
IsRefusalOf line NoMemory = Unit {0}
