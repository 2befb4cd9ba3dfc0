-- Which text is the netlist of which circuit, and how every other text is refused (ISCAS-89 format).
use Rattle.std.specs.Prelude.{◌≡◌, ℕ, ◌+◌, List, ◌∷◌, ◌++◌, length, map, get_or, [], Option, Some, None, option_map}
use Rattle.std.specs.Option.{option_or}
use Rattle.ht_ports.specs.LineRule.{lines_of}
use Rattle.ht_net.specs.Circuit.Netlist.{Netlist, IsCircuit}
use Rattle.ht_net.specs.Build.Named.{Name, named_of}
use Rattle.ht_statement.specs.Statement.{Statement}
use Rattle.ht_statement.specs.Reading.{Reading, stated, unreadable, reading_of}
use Rattle.ht_bench.specs.Contents.{named_of_statements}
use Rattle.ht_bench.specs.Accepted.{reading_error}
use Rattle.ht_bench.specs.AddErrors.{error_at}
use Rattle.ht_bench.specs.EndOfText.{undriven_refusal, IsNetCycle}
use Rattle.ht_bench.specs.Role.{line_of}
use Rattle.ht_bench.specs.declared.find_line.Role.TheVariants.{Driven}
use Rattle.ht_bench.specs.declared.error.BenchError.{BenchError}
use Rattle.ht_bench.specs.declared.error.BenchError.TheVariants.{Loop, NoMemory}

-- the greatest number of bytes of a netlist
abbrev pub max_netlist_bytes : ℕ
max_netlist_bytes = 16777216

-- what each line of a text states, or why it is refused
abbrev pub readings_of : List ℕ → List Reading
readings_of text = map reading_of (lines_of text)

-- what a reading states, as a list of at most one
abbrev pub statement_in : Reading → List Statement
statement_in (stated s) = s ∷ []
statement_in (unreadable refusal) = []

-- The refusal of lines after these statements: that of the first line that isn't accepted after the statements before
-- it, else that of the first net without a driver. Lines count from 1.
abbrev pub refusal_after : List Statement → List Reading → Option BenchError
refusal_after before [] = undriven_refusal before
refusal_after before (reading ∷ readings) =
    option_or
    (option_map (λ error. error_at error (length before + 1)) (reading_error before reading))
    (refusal_after (before ++ statement_in reading) readings)

-- the refusal of a text, cycles of gates apart
abbrev pub refusal_of : List ℕ → Option BenchError
refusal_of text = refusal_after [] (readings_of text)

-- each line of the text is a statement that is accepted after those before it, and each net is driven
pub record IsAcceptedText (text : List ℕ) (statements : List Statement) : Type 0 where
  pub lines : readings_of text ≡ map stated statements
  pub unrefused : refusal_of text ≡ None

-- A netlist and its circuit: the text is accepted, the circuit is well formed, and its inputs, outputs, flip-flops and
-- gates are those of the lines in their order.
pub record IsNetlistOf (text : List ℕ) (circuit : Netlist) : Type 0 where
  pub statements : List Statement
  pub read : IsAcceptedText text statements
  pub is_circuit : IsCircuit circuit
  pub named : named_of circuit ≡ named_of_statements statements

-- the text is accepted, and gates form a cycle; the line is the one that drives its first net
pub record IsLoop (text : List ℕ) (number : ℕ) (cycle : List Name) : Type 0 where
  pub statements : List Statement
  pub read : IsAcceptedText text statements
  pub is_cycle : IsNetCycle statements cycle
  pub line : number ≡ line_of Driven statements (get_or cycle 0 [])

-- the refusal of a text that is no netlist; memory may run out at any text
abbrev pub Refuses : List ℕ → BenchError → Type 0
Refuses text (Loop line names) = IsLoop text line names
Refuses text NoMemory = Unit {0}
Refuses text error = refusal_of text ≡ Some error

-- a text that is refused for another cause than memory is no circuit's netlist
abbrev pub IsOfNoCircuit : List ℕ → BenchError → Type 0
IsOfNoCircuit text NoMemory = Unit {0}
IsOfNoCircuit text _ = (circuit : Netlist) → ¬ IsNetlistOf text circuit
