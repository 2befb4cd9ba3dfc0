-- What closing a fault owes for each of its answers.
use Rattle.std.specs.Prelude.{◌≡◌, ℕ, List}
use Rattle.ht_tern.specs.declared.tern.Tern.{Tern}
use Rattle.ht_net.specs.declared.fault.Fault.{Fault}
use Rattle.ht_net.specs.Circuit.Netlist.{Netlist}
use Rattle.ht_net.specs.Frames.Rows.{Rows}
use Rattle.ht_net.specs.Detect.Detection.{Detects}
use Rattle.ht_cubes.specs.Passing.{RefutesByCubes}
use Rattle.ht_tree.specs.Record.Reached.{AreVectors}
use Rattle.ht_valid.specs.WritableEntries.{AreShort}
use Rattle.ht_close.specs.declared.closed.Closed.{Closed}
use Rattle.ht_close.specs.declared.closed.Closed.TheVariants.{Refuted, Detected, Open}

-- A list of the circuit's width that detects the fault from all-unknown.
pub record IsDetectingList (c : Netlist) (fault : Fault) (list : Rows) : Type 0 where
  pub wide : AreVectors c list.list
  pub width : list.width ≡ c.inputs
  pub vector : ℕ
  pub output : ℕ
  pub detects : Detects c fault list.list vector output

-- What is said of a fault holds: cubes and steps refute it from the start and can be written as an entry, or the list
-- detects it.
abbrev pub ClosedHolds : Netlist → Fault → List Tern → Closed → Type 0
ClosedHolds c fault start (Refuted cubes steps) =
    RefutesByCubes c fault start cubes steps × AreShort cubes steps
ClosedHolds c fault start (Detected list) = IsDetectingList c fault list
ClosedHolds c fault start Open = Unit {0}
