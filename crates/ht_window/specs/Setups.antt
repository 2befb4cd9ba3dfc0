-- What a window is made for.
use Rattle.std.specs.Prelude.{◌≤◌}
use Rattle.ht_net.specs.Circuit.Netlist.{Netlist}
use Rattle.ht_events.specs.Plans.{max_frames}
use Rattle.ht_tree.specs.Window.Windows.{SearchWindow, IsStart}
use Rattle.ht_window.specs.Starts.{start_of, window_from}
use Rattle.ht_window.specs.declared.setup.Setup.{Setup}

-- the window of a circuit that is made for a setup
abbrev pub window_for : Netlist → Setup → SearchWindow
window_for c s = window_from c s.fault s.frames s.start.now

-- A setup of a window of the circuit, with no more frames than a plan may have.
pub record IsSetup (c : Netlist) (s : Setup) : Type 0 where
  pub few : s.frames ≤ max_frames
  pub start : IsStart c s.fault s.frames (start_of s.start.now)
