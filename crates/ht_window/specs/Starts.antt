-- A start as the definitions of windows see it.
use Rattle.std.specs.Prelude.{◌+◌, ℕ, List, [], ◌∷◌, Bool, cond, Option}
use Rattle.ht_net.specs.Circuit.Netlist.{Netlist}
use Rattle.ht_net.specs.declared.fault.Fault.{Fault}
use Rattle.ht_tree.specs.Window.Windows as window
use Rattle.ht_window.specs.declared.start.Start.{Start}
use Rattle.ht_window.specs.declared.start.Start.TheVariants.{OneFrame, Unknown, Pair, Back}

-- the numbers of the marks that are set, from j on
abbrev pub marked : ℕ → List Bool → List ℕ
marked j [] = []
marked j (mark ∷ marks) = cond mark (j ∷ marked (j + 1) marks) (marked (j + 1) marks)

-- a start in memory as the start of a window, with the set of marked flip-flops as a list
abbrev pub start_of : Start → window.Start
start_of (OneFrame z) = window.one_frame (marked 0 z)
start_of Unknown = window.unknown
start_of (Pair state) = window.state_pair state.good state.bad
start_of (Back cube limit) = window.back cube limit

-- the window of a start
abbrev pub window_from : Netlist → Option Fault → ℕ → Start → window.SearchWindow
window_from circuit fault frames start =
    record { circuit = circuit; fault = fault; frames = frames; start = start_of start }
