-- Windows under clauses as a search holds them.
use Rattle.std.specs.Prelude.{List, ◌∷◌, Bool, true, nat_lt, length, Option, is_none}
use Rattle.std.specs.List.{list_all}
use Rattle.ht_net.specs.declared.fault.Fault.{Fault}
use Rattle.ht_net.specs.Circuit.Netlist.{Netlist}
use Rattle.ht_tree.specs.Window.Windows.{SearchWindow}
use Rattle.ht_tree.specs.declared.clause.Literal.{Literal}
use Rattle.ht_tree.specs.declared.clause.Clause.{Clause}
use Rattle.ht_tree.specs.Clause.Clauses.{literals_of, literals_of_each, second_of}
use Rattle.ht_tree.specs.Clause.ClauseWindows as windows
use Rattle.ht_tree.specs.Clause.ClauseWindows.{ClauseWindow}
use Rattle.ht_invariant.specs.declared.sought.Sought.{Sought}
use Rattle.ht_invariant.specs.declared.sought.Sought.TheVariants.{Difference, Breach}

-- what is looked for, in memory
abbrev pub sought_of : Sought → windows.Sought
sought_of Difference = windows.difference
sought_of (Breach first second) = windows.breach (first ∷ second_of second)

-- a window under clauses, from what a search holds
abbrev pub clause_window : SearchWindow → Sought → List Clause → ClauseWindow
clause_window w sought clauses = record { window = w; sought = sought_of sought; clauses = literals_of_each clauses }

-- the flip-flops of literals, of what is looked for, and of clauses are the circuit's
abbrev pub knows : Netlist → List Literal → Bool
knows c literals = list_all (λ (literal : Literal). nat_lt literal.dff (length c.dffs)) literals

-- what is sought speaks of the circuit's flip-flops alone
abbrev pub knows_sought : Netlist → Sought → Bool
knows_sought c Difference = true
knows_sought c (Breach first second) = knows c (first ∷ second_of second)

-- a breach is sought in the good machine alone
abbrev pub suits_sought : Option Fault → Sought → Bool
suits_sought fault Difference = true
suits_sought fault (Breach first second) = is_none fault

-- each clause speaks of the circuit's flip-flops alone
abbrev pub knows_each : Netlist → List Clause → Bool
knows_each c clauses = list_all (λ (clause : Clause). knows c (literals_of clause)) clauses
