-- The expanded circuit of a list of lines, and the stuck pins that are their transition faults.
use Rattle.std.specs.Prelude.{ℕ, suc, List, [], ◌∷◌, ◌++◌, ◌+◌, ◌-◌, ◌*◌, Bool, true, false, cond, ltb, length, replicate, get_or}
use Rattle.std.specs.List.{All}
use Rattle.ht_tern.specs.declared.tern.Tern.{Tern}
use Rattle.ht_tern.specs.declared.tern.Tern.TheVariants.{Unk}
use Rattle.ht_net.specs.declared.fault.Site.{Site}
use Rattle.ht_net.specs.declared.fault.Site.TheVariants.{Stem, DffPin, GatePin}
use Rattle.ht_net.specs.declared.fault.Fault.{Fault}
use Rattle.ht_net.specs.Build.Named.{Name}
use Rattle.ht_net.specs.Circuit.Lists.{AllDiffer}
use Rattle.ht_net.specs.Circuit.Netlist.{Netlist, first_gate_net, no_net}
use Rattle.ht_slow.specs.Slow.{IsLine}
use Rattle.ht_slow.specs.ExpandedLine.{net, expanded_line}
use Rattle.ht_slow.specs.LineNames.{line_stump, shown_name, before_name, both_name, renamed, with_three}

-- A line of c in e, which is c with some lines expanded: a gate's net moves up by one for each of their flip-flops.
abbrev pub line_in : Netlist → Netlist → Site → Site
line_in c e (Stem x) = Stem (net (cond (ltb x.0 (first_gate_net c)) x.0
    (x.0 + (length e.dffs - length c.dffs))))
line_in c e (DffPin j) = DffPin j
line_in c e (GatePin g i) = GatePin g i

-- the names of e with one line of c expanded
abbrev pub names_over : Netlist → Netlist → Site → List Name
names_over c e site = with_three (first_gate_net e)
    (renamed e.names (line_in c e site) (line_stump c site))
    (before_name c site) (shown_name c site) (both_name c site)

-- e with one line of c expanded
abbrev pub expand_line : Netlist → Netlist → Site → Netlist
expand_line c e site = expanded_line e (line_in c e site) (names_over c e site)

-- e with lines of c expanded, one after the other
abbrev pub expand_on : Netlist → Netlist → List Site → Netlist
expand_on c e [] = e
expand_on c e (site ∷ sites) = expand_on c (expand_line c e site) sites

-- The circuit with these lines expanded, in their order.
abbrev pub expanded : Netlist → List Site → Netlist
expanded c sites = expand_on c c sites

-- The fault of the expanded circuit that is a transition fault of line k: the first pin of its L stuck at 0 is slow to
-- rise, the first pin of its B stuck at 1 slow to fall.
abbrev pub listed_fault : Netlist → ℕ → Bool → Fault
listed_fault c k false = record { site = GatePin (length c.gates + 2 * k) 0; value = false }
listed_fault c k true = record { site = GatePin (suc (length c.gates + 2 * k)) 0; value = true }

-- different lines of the circuit
pub record AreLines (c : Netlist) (sites : List Site) : Type 0 where
  pub lines : All (IsLine c) sites
  pub differ : AllDiffer sites

-- A start of the expanded circuit: that of the circuit, and X for the flip-flop of each line.
abbrev pub start_over : List Tern → List Site → List Tern
start_over start sites = start ++ replicate (length sites) Unk

-- line k of a list of lines
abbrev pub chosen_line : List Site → ℕ → Site
chosen_line sites k = get_or sites k (Stem no_net)

-- a transition fault of line k: `false` is slow to rise
abbrev pub slow_fault : List Site → ℕ → Bool → Fault
slow_fault sites k value = record { site = chosen_line sites k; value = value }

-- what the flip-flop of line k holds
abbrev pub before_of : {V : Type 0} → V → List V → ℕ → V
before_of blank befores k = get_or befores k blank
