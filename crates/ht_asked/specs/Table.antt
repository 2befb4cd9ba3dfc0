-- The table of the commands, a row each.
use Rattle.std.specs.Prelude.{◌∷◌, Bool, true, false, List, [], codes}
use Rattle.std.specs.List.{list_any}
use Rattle.clap.specs.Walk.{Text}
use Rattle.ht_ports.specs.declared.ports.InPort.{InPort}
use Rattle.ht_ports.specs.declared.ports.InPort.TheVariants as in_port
use Rattle.ht_ports.specs.declared.ports.OutPort.{OutPort}
use Rattle.ht_ports.specs.declared.ports.OutPort.TheVariants as out_port

-- ---- what an argument is for

-- what the text of an argument is for: it names the file that is read at a port, or made at one, or it says a number
-- or a choice
pub data Role : Type 0 where
  file_read : InPort → Role
  file_made : OutPort → Role
  says_budget : Role
  says_random : Role
  says_weighted : Role
  says_bred : Role
  says_seed : Role
  says_depth : Role
  says_work : Role
  says_fault : Role
  says_size : Role
  says_lines : Role
  says_runs : Role

-- an argument of a command: its name, and what it is for
pub record Argument : Type 0 where
  pub name : Text
  pub role : Role

-- an argument that names the file which is read at the port
abbrev pub input : Text → InPort → Argument
input name port = record { name = name; role = file_read port }

-- an argument that names the file which is made at the port
abbrev pub output : Text → OutPort → Argument
output name port = record { name = name; role = file_made port }

-- an argument that says a number or a choice
abbrev pub number : Text → Role → Argument
number name role = record { name = name; role = role }

-- the netlist, which is read
abbrev pub of_netlist : Argument
of_netlist = input (codes "netlist") in_port.Netlist

-- the tests, which are read
abbrev pub of_tests : Argument
of_tests = input (codes "tests") in_port.Tests

-- the file that a command makes at the port Report
abbrev pub of_out : Argument
of_out = output (codes "out") out_port.Report

-- the start
abbrev pub of_start : Argument
of_start = input (codes "start") in_port.Extra

-- the budget of a search
abbrev pub of_budget : Argument
of_budget = number (codes "budget") says_budget

-- the argument is a file at the port Extra: among options that is the start
abbrev pub names_extra : Role → Bool
names_extra (file_read in_port.Extra) = true
names_extra role = false

-- ---- the table

-- the commands
pub data Kind : Type 0 where
  sim : Kind
  gen : Kind
  check : Kind
  norm : Kind
  demo : Kind
  compact : Kind
  diagnose : Kind
  uninit : Kind
  sync : Kind
  respond : Kind
  report : Kind
  breed : Kind
  causes : Kind

-- a command: its name in lower case, its positionals in their order, its options, and its flags, which have no value;
-- whether it says something on Out, whether it does so before the work, and whether it makes its files before the work
pub record Row : Type 0 where
  pub name : Text
  pub positionals : List Argument
  pub options : List Argument
  pub flags : List Argument
  pub says_on_out : Bool
  pub says_early : Bool
  pub makes_early : Bool

-- a command without flags that says something on Out, and makes its files and says it once the work is done
abbrev pub row_with : Text → List Argument → List Argument → Row
row_with name positionals options = record {
  name = name;
  positionals = positionals;
  options = options;
  flags = [];
  says_on_out = true;
  says_early = false;
  makes_early = false;
}

-- the row of each command
abbrev pub command_row : Kind → Row
command_row sim = row_with (codes "sim")
    (of_netlist ∷ of_tests ∷ output (codes "report") out_port.Report ∷ []) (of_start ∷ [])
command_row gen = record (row_with (codes "gen")
    (of_netlist ∷ output (codes "tests") out_port.Tests ∷ output (codes "report") out_port.Report
    ∷ output (codes "proofs") out_port.Proofs ∷ [])
    (of_budget ∷ number (codes "random") says_random ∷ number (codes "seed") says_seed ∷ of_start
    ∷ input (codes "first") in_port.Tests ∷ input (codes "faults") in_port.Faults
    ∷ number (codes "weighted") says_weighted ∷ number (codes "search") says_depth
    ∷ number (codes "work") says_work ∷ []))
    { makes_early = true }
command_row check = row_with (codes "check")
    (of_netlist ∷ of_tests ∷ input (codes "report") in_port.Report
    ∷ input (codes "proofs") in_port.Proofs ∷ [])
    (of_start ∷ [])
command_row norm = record (row_with (codes "norm") (of_netlist ∷ of_out ∷ []) [])
    { says_on_out = false }
command_row demo = record (row_with (codes "demo")
    (number (codes "size") says_size ∷ number (codes "seed") says_seed ∷ []) [])
    { says_early = true }
command_row compact = row_with (codes "compact")
    (of_netlist ∷ of_tests ∷ output (codes "out") out_port.Tests ∷ [])
    (number (codes "runs") says_runs ∷ [])
command_row diagnose = row_with (codes "diagnose")
    (of_netlist ∷ of_tests ∷ input (codes "responses") in_port.Extra ∷ of_out ∷ []) []
command_row uninit = row_with (codes "uninit") (of_netlist ∷ of_out ∷ []) (of_budget ∷ [])
command_row sync = row_with (codes "sync")
    (of_netlist ∷ output (codes "tests") out_port.Tests ∷ of_out ∷ []) (of_budget ∷ [])
command_row respond = record (row_with (codes "respond") (of_netlist ∷ of_tests ∷ of_out ∷ [])
    (number (codes "fault") says_fault ∷ of_start ∷ []))
    { flags = number (codes "lines") says_lines ∷ [] }
command_row report = row_with (codes "report")
    (of_netlist ∷ of_tests ∷ input (codes "proofs") in_port.Proofs
    ∷ output (codes "report") out_port.Report ∷ [])
    (of_budget ∷ of_start ∷ [])
command_row breed = row_with (codes "breed")
    (of_netlist ∷ of_tests ∷ output (codes "out") out_port.Tests ∷ [])
    (number (codes "vectors") says_bred ∷ number (codes "seed") says_seed ∷ of_start ∷ [])
command_row causes = row_with (codes "causes") (of_netlist ∷ of_tests ∷ of_out ∷ []) (of_start ∷ [])

-- the commands, in the order of the usage line
abbrev pub kinds : List Kind
kinds = sim ∷ gen ∷ check ∷ norm ∷ demo ∷ compact ∷ diagnose ∷ uninit ∷ sync ∷ respond ∷ report
    ∷ breed ∷ causes ∷ []

-- the command may state a start
abbrev pub takes_start : Kind → Bool
takes_start kind = list_any (λ (a : Argument). names_extra a.role) (command_row kind).options
