-- What the statements of a netlist say together (ISCAS-89 format): inputs, outputs, flip-flops, gates, and which nets
-- are driven and mentioned.
use Rattle.std.specs.Prelude.{ℕ, List, [], ◌∷◌, ◌++◌, flat_map, fold}
use Rattle.std.specs.List.{position_or_len}
use Rattle.std.specs.Str.{bytes_eq}
use Rattle.ht_net.specs.Build.Named.{Name, NamedNetlist}
use Rattle.ht_statement.specs.Statement.{Statement, blank_line, input_line, output_line, dff_line, gate_line, names_in}
use Rattle.ht_bench.specs.Different.{with_name, different}

-- a netlist of nothing
abbrev pub no_parts : NamedNetlist
no_parts = record { inputs = []; outputs = []; dffs = []; gates = [] }

-- what one more statement adds; a repeated OUTPUT line adds nothing
abbrev pub with_statement : NamedNetlist → Statement → NamedNetlist
with_statement n blank_line = n
with_statement n (input_line name) = record n { inputs = n.inputs ++ name ∷ [] }
with_statement n (output_line name) = record n { outputs = with_name n.outputs name }
with_statement n (dff_line out data_pin) = record n
    { dffs = n.dffs ++ record { out = out; data_pin = data_pin } ∷ [] }
with_statement n (gate_line out kind args) = record n
    { gates = n.gates ++ record { kind = kind; out = out; args = args } ∷ [] }

-- inputs, outputs, flip-flops and gates, each in the order of the lines
abbrev pub named_of_statements : List Statement → NamedNetlist
named_of_statements statements = fold with_statement no_parts statements

-- the net that a statement drives, if it drives one: an input's, or that of a definition
abbrev pub driven_in : Statement → List Name
driven_in (input_line name) = name ∷ []
driven_in (dff_line out data_pin) = out ∷ []
driven_in (gate_line out kind args) = out ∷ []
driven_in _ = []

-- the names that the statements drive, in order
abbrev pub driven_by : List Statement → List Name
driven_by statements = flat_map driven_in statements

-- the names that the statements mention, in order
abbrev pub mentions_of : List Statement → List Name
mentions_of statements = flat_map names_in statements

-- the nets: the different names that are mentioned, in the order of first mention
abbrev pub stated_nets : List Statement → List Name
stated_nets statements = different (mentions_of statements)

-- the place of a net in the order of first mention
abbrev pub mention_rank : List Statement → Name → ℕ
mention_rank statements name = position_or_len (λ other. bytes_eq other name)
    (stated_nets statements)
