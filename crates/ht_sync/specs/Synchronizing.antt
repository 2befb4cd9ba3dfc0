-- Lists of vectors that make every latch definite.
use Rattle.std.specs.Prelude.{◌≡◌, ◌<◌, ℕ, List, Bool, true, None, map, length, get_or}
use Rattle.ht_tern.specs.declared.tern.Tern.{Tern}
use Rattle.ht_tern.specs.declared.tern.Tern.TheVariants.{Unk}
use Rattle.ht_net.specs.Circuit.Netlist.{Netlist}
use Rattle.ht_net.specs.Frames.Frame.{run_state}
use Rattle.ht_net.specs.Frames.Faults.{bool_rules, tern_rules}
use Rattle.ht_net.specs.Detect.Detection.{IsState, terns_of, unknown_state}
use Rattle.ht_tree.specs.Window.WindowStatus.{is_definite}

-- the state of the good machine after a list, from all-unknown
abbrev pub state_after : Netlist → List (List Bool) → List Tern
state_after c list = run_state c (tern_rules None) (unknown_state c) (map terns_of list)

-- The list synchronizes: after it every latch is definite.
abbrev pub Synchronizes : Netlist → List (List Bool) → Type 0
Synchronizes c list = (j : ℕ) → j < length c.dffs → is_definite (get_or (state_after c list) j Unk) ≡ true

-- The list synchronizes the circuit to this state of bits.
abbrev pub SynchronizesTo : Netlist → List (List Bool) → List Bool → Type 0
SynchronizesTo c list state = state_after c list ≡ terns_of state

-- every two-valued run over the list ends in this state, whatever its start
abbrev pub EndsEachRun : Netlist → List (List Bool) → List Bool → Type 0
EndsEachRun c list state =
    (start : List Bool) → IsState c start → run_state c (bool_rules None) start list ≡ state
