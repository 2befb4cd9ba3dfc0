-- Windows from which others are made.
use Rattle.std.specs.Prelude.{◌≡◌, ◌≤◌, [], None}
use Rattle.std.specs.List.{All}
use Rattle.ht_net.specs.Circuit.Netlist.{Netlist}
use Rattle.ht_tree.specs.Window.Windows.{SearchWindow, IsStart}
use Rattle.ht_window.specs.Starts.{start_of}
use Rattle.ht_window.specs.States.{WindowState}
use Rattle.ht_window.specs.declared.setup.Setup.{Setup}
use Rattle.ht_window.specs.declared.bases.Bases.TheInside.{Inside}

-- What contracts see of bases: their circuit.
pub record BasesState : Type 0 where
  pub circuit : Netlist

-- Window v before its first decision.
pub record IsNew (v : SearchWindow) (w : WindowState) : Type 0 where
  pub window : w.window ≡ v
  pub decisions : w.decisions ≡ []
  pub marks : w.marks ≡ []

-- a window of the circuit before its first decision in which all nets matter
pub record IsBase (c : Netlist) (w : WindowState) : Type 0 where
  pub circuit : w.window.circuit ≡ c
  pub decisions : w.decisions ≡ []
  pub whole : w.relevant ≡ None

-- a base with the frames of a setup, and these are a window, and which as a whole may have the setup's fault and start
pub record IsBaseFor (c : Netlist) (s : Setup) (w : WindowState) : Type 0 where
  pub base : IsBase c w
  pub few : s.frames ≤ w.window.frames
  pub front : IsStart c w.window.fault s.frames w.window.start
  pub fits : IsStart c s.fault w.window.frames (start_of s.start.now)

-- a base with the fault, the start and at least the frames of a setup
pub record IsBaseOf (c : Netlist) (s : Setup) (w : WindowState) : Type 0 where
  pub base : IsBase c w
  pub few : s.frames ≤ w.window.frames
  pub fault : w.window.fault ≡ s.fault
  pub start : w.window.start ≡ start_of s.start.now

-- each base is one of the plan's circuit
pub record AreBases (a : Inside) : Type 0 where
  pub windows : All (IsBase a.frame_plan.value.circuit) a.windows.items
