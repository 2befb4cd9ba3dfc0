-- The normal text of a circuit (ISCAS-89 format).
use Rattle.std.specs.Prelude.{◌≡◌, ℕ, true, List, ◌++◌, map}
use Rattle.std.specs.List.{flat_map, list_all}
use Rattle.ht_net.specs.Circuit.Netlist.{Netlist}
use Rattle.ht_net.specs.Build.Named.{NamedDff, NamedGate, NamedNetlist, named_of}
use Rattle.ht_statement.specs.Name.{is_name}
use Rattle.ht_statement.specs.Statement.{Statement, input_line, output_line, dff_line, gate_line}
use Rattle.ht_statement.specs.StatementText.{statement_line}

-- the lines of some statements
abbrev pub statement_lines : List Statement → List ℕ
statement_lines statements = flat_map statement_line statements

-- the statement of a flip-flop
abbrev pub dff_statement : NamedDff → Statement
dff_statement d = dff_line d.out d.data_pin

-- the statement of a gate
abbrev pub gate_statement : NamedGate → Statement
gate_statement g = gate_line g.out g.kind g.args

-- the lines of the inputs, the outputs, the flip-flops and the gates
abbrev pub input_lines : NamedNetlist → List ℕ
input_lines n = statement_lines (map input_line n.inputs)

-- the lines of the outputs
abbrev pub output_lines : NamedNetlist → List ℕ
output_lines n = statement_lines (map output_line n.outputs)

-- the lines of the flip-flops
abbrev pub dff_lines : NamedNetlist → List ℕ
dff_lines n = statement_lines (map dff_statement n.dffs)

-- the lines of the gates
abbrev pub gate_lines : NamedNetlist → List ℕ
gate_lines n = statement_lines (map gate_statement n.gates)

-- inputs, then outputs, then flip-flops, then gates, each in the order of the circuit
abbrev pub named_statements : NamedNetlist → List Statement
named_statements n = map input_line n.inputs ++ map output_line n.outputs ++ map dff_statement n.dffs
    ++ map gate_statement n.gates

-- the statements of a circuit in normal order
abbrev pub statements_of : Netlist → List Statement
statements_of c = named_statements (named_of c)

-- one line for each statement, and nothing else
abbrev pub normal_text : Netlist → List ℕ
normal_text c = statement_lines (statements_of c)

-- each net has a name of the format
abbrev pub HasFormatNames : Netlist → Type 0
HasFormatNames c = list_all is_name c.names ≡ true
