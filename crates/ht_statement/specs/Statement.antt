-- What a line of a netlist states (ISCAS-89 format).
use Rattle.std.specs.Prelude.{List, [], ◌∷◌}
use Rattle.ht_tern.specs.declared.gate.Kind.{Kind}
use Rattle.ht_net.specs.Build.Named.{Name}

-- nothing; an input; an output; a flip-flop's net and the net at its data pin; a gate's net, its kind and its arguments
pub data Statement : Type 0 where
  blank_line : Statement
  input_line : Name → Statement
  output_line : Name → Statement
  dff_line : Name → Name → Statement
  gate_line : Name → Kind → List Name → Statement

-- the names in a statement, from the left
abbrev pub names_in : Statement → List Name
names_in blank_line = []
names_in (input_line name) = name ∷ []
names_in (output_line name) = name ∷ []
names_in (dff_line out data_pin) = out ∷ data_pin ∷ []
names_in (gate_line out kind args) = out ∷ args
