-- How the fields of the checker's window stand for it.
use Rattle.std.specs.Prelude.{◌≡◌, ◌+◌, ◌*◌, length}
use Rattle.ht_tree.specs.Window.Windows.{SearchWindow, IsWindow}
use Rattle.ht_recompute.specs.WindowStarts.{IsStartOf, window_start}
use Rattle.ht_recompute.specs.declared.recomputed_window.RecomputedWindow.TheInside.{Inside}

-- the window that the fields of the checker's stand for
abbrev pub window_of : Inside → SearchWindow
window_of a = record {
  circuit = a.frame.circuit;
  fault = a.frame.fault;
  frames = a.frames;
  start = window_start a.start;
}

-- The start is one of the circuit, and there is room for each variable and for a cube.
pub record HasWindowRoom (a : Inside) : Type 0 where
  pub window : IsWindow (window_of a)
  pub start : IsStartOf a.start (length a.frame.circuit.dffs)
  pub decisions : length a.decisions.items ≡ a.frames * a.frame.circuit.inputs + 2 * length a.frame.circuit.dffs
  pub cube : length a.cube.items ≡ length a.frame.circuit.dffs
