-- Back windows that stand one under the other.
use Rattle.std.specs.Prelude.{◌≡◌, ◌-◌, ℕ, List, [], ◌∷◌, map, length}
use Rattle.ht_tern.specs.declared.tern.Tern.{Tern}
use Rattle.ht_net.specs.Circuit.Netlist.{Netlist}
use Rattle.ht_tree.specs.declared.token.Assign3.{Assign3}
use Rattle.ht_tree.specs.Window.Windows.{SearchWindow, back_window}
use Rattle.ht_tree.specs.Window.Nodes.{cube_of}
use Rattle.ht_search.specs.Routes.{Route}
use Rattle.ht_search.specs.WindowSteps.{route_of, steps_under}
use Rattle.ht_window.specs.States.{WindowState}

-- the decisions of each window
abbrev pub decisions_of : List WindowState → List (List Assign3)
decisions_of states = map (λ (s : WindowState). s.decisions) states

-- the route of the deepest window, where those above it stand from the first on
abbrev pub route_at : List WindowState → WindowState → Route
route_at above deepest = route_of (steps_under (decisions_of above) deepest.decisions)

-- what is wanted of the window under others, of which the nearest comes first: the latches that the nearest decided
abbrev pub cube_under : Netlist → List Tern → List (List Assign3) → List Tern
cube_under c cube [] = cube
cube_under c cube (decisions ∷ older) = cube_of c decisions

-- the window under others: as many frames fewer are left to it
abbrev pub window_under : Netlist → List Tern → ℕ → List (List Assign3) → SearchWindow
window_under c cube limit older = back_window c (cube_under c cube older) (limit - length older)

-- each window is the one under those above it; the deepest comes first
abbrev pub AreUnder : Netlist → List Tern → ℕ → List WindowState → Type 0
AreUnder c cube limit [] = Unit {0}
AreUnder c cube limit (s ∷ older) =
    (s.window ≡ window_under c cube limit (decisions_of older)) × AreUnder c cube limit older
