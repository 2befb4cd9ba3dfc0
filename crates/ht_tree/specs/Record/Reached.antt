-- What lists of vectors do from given states: show a difference of the two machines, and bring the good machine to a
-- cube.
use Rattle.std.specs.Prelude.{◌≡◌, ◌<◌, ℕ, List, [], Bool, Option, Some, None, map, length, get_or}
use Rattle.std.specs.List.{All}
use Rattle.ht_tern.specs.declared.tern.Tern.{Tern}
use Rattle.ht_tern.specs.declared.tern.Tern.TheVariants.{Unk}
use Rattle.ht_tern.specs.Gate.{Refines}
use Rattle.ht_tern.specs.Opposite.{Opposite}
use Rattle.ht_net.specs.declared.fault.Fault.{Fault}
use Rattle.ht_net.specs.Circuit.Netlist.{Netlist}
use Rattle.ht_net.specs.Frames.Frame.{run_outputs, run_state}
use Rattle.ht_net.specs.Frames.Faults.{tern_rules}
use Rattle.ht_net.specs.Detect.Detection.{terns_of, unknown_state}
use Rattle.ht_tree.specs.Window.WindowStatus.{value_at}

-- each vector has a bit for each input
abbrev pub AreVectors : Netlist → List (List Bool) → Type 0
AreVectors c list = All (λ vector. length vector ≡ c.inputs) list

-- a three-valued state: a value for each latch
abbrev pub IsTernState : Netlist → List Tern → Type 0
IsTernState c state = length state ≡ length c.dffs

-- what a machine shows at output o of vector t, from a three-valued state
abbrev pub shown_at : Netlist → Option Fault → List Tern → List (List Bool) → ℕ → ℕ → Tern
shown_at c fault state list t o =
    get_or (get_or (run_outputs c (tern_rules fault) state (map terns_of list)) t []) o Unk

-- From a state of each machine the list gives opposite definite values at output o of vector t. From all-unknown this
-- is what it is to detect the fault.
abbrev pub ShowsFrom : Netlist → Fault → List Tern → List Tern → List (List Bool) → ℕ → ℕ → Type 0
ShowsFrom c fault good faulty list t o =
    Opposite (shown_at c None good list t o) (shown_at c (Some fault) faulty list t o)

-- a state has each value that a cube wants
abbrev pub HasCube : Netlist → List Tern → List Tern → Type 0
HasCube c cube state = (j : ℕ) → j < length c.dffs → Refines (get_or state j Unk) (value_at cube j)

-- the list brings the good machine from all-unknown to the cube
abbrev pub Reaches : Netlist → List (List Bool) → List Tern → Type 0
Reaches c list cube = HasCube c cube (run_state c (tern_rules None) (unknown_state c) (map terns_of list))
