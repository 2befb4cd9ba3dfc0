-- The files that a job reads, port by port.
use Rattle.std.specs.Prelude.{◌≡◌, ℕ, Bool, true, false, List, Option, Some, None, if◌then◌else◌}
use Rattle.ht_ports.specs.Desk.{DeskView, Holds}
use Rattle.ht_ports.specs.declared.ports.InPort.{InPort}
use Rattle.ht_ports.specs.declared.ports.InPort.TheVariants as in_port
use Rattle.ht_asked.specs.Asked.{Asked}
use Rattle.ht_asked.specs.Table.{Kind, check, compact, report}
use Rattle.ht_asked.specs.Table.{takes_start}

-- the file that the job reads from the port
abbrev pub input_name : Asked → InPort → Option (List ℕ)
input_name job in_port.Netlist = job.reads.netlist
input_name job in_port.Tests = job.reads.tests
input_name job in_port.Report = job.reads.report
input_name job in_port.Proofs = job.reads.proofs
input_name job in_port.Faults = job.reads.faults
input_name job in_port.Extra = job.reads.extra

-- the job may state a start, which it reads from the port Extra
abbrev pub may_state_start : Asked → Bool
may_state_start job = takes_start job.command

-- the file of the start, where the job states one
abbrev pub start_name : Asked → Option (List ℕ)
start_name job = if may_state_start job then job.reads.extra else None

-- the command judges proofs, by the tests and, if it reads one, by the report before them
abbrev pub judges : Kind → Bool
judges check = true
judges report = true
judges kind = false

-- the command takes only few vectors, where the words don't say what the longest run is that is left out of them at
-- once
abbrev pub takes_few : Kind → Option ℕ → Bool
takes_few compact None = true
takes_few kind runs = false

-- the place of a port in the order of reading: what the port Extra has is read before the tests where it is a start, and
-- after them else
abbrev pub turn_of : InPort → Bool → ℕ
turn_of in_port.Netlist is_start = 0
turn_of in_port.Extra true = 1
turn_of in_port.Extra false = 2
turn_of in_port.Tests true = 2
turn_of in_port.Tests false = 1
turn_of in_port.Report is_start = 3
turn_of in_port.Proofs is_start = 4
turn_of in_port.Faults is_start = 5

-- the order in which a job reads its files, each whole before the next is opened
abbrev pub order_of : Asked → InPort → ℕ
order_of job port = turn_of port (may_state_start job)

-- the desk holds the files that the job reads
abbrev pub HoldsInputs : Asked → DeskView → Type 0
HoldsInputs job desk = (port : InPort) (name : List ℕ) → input_name job port ≡ Some name
    → Holds desk name
