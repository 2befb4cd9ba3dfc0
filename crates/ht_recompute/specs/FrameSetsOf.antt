-- How the fields of a frame of sets stand for it, and what a frame makes of it.
use Rattle.std.specs.Prelude.{◌≡◌, ◌<◌, ◌*◌, ℕ, suc, zero, List, [], map, Option, None, length, get_or}
use Rattle.std.specs.List.{range_with_len}
use Rattle.ht_tern.specs.declared.tern.Tern.{Tern}
use Rattle.ht_pairs.specs.Pairs.{Pair}
use Rattle.ht_pairs.specs.Decided.{same_pairs}
use Rattle.ht_net.specs.declared.fault.Fault.{Fault}
use Rattle.ht_net.specs.Circuit.Netlist.{Netlist, IsCircuit}
use Rattle.ht_net.specs.Frames.Frame.{frame_outputs, next_state}
use Rattle.ht_tree.specs.declared.window.Spot.{Spot}
use Rattle.ht_tree.specs.declared.window.Spot.TheVariants.{Output, State, Cube}
use Rattle.ht_tree.specs.Window.Windows.{pair_set_rules}
use Rattle.ht_recompute.specs.declared.frame_sets.FrameEnds.{FrameEnds}
use Rattle.ht_recompute.specs.declared.frame_sets.FrameSets.TheInside.{Inside}

-- A circuit and a fault, with the sets of the latches, and those that the outputs hold.
pub record FrameState : Type 0 where
  pub circuit : Netlist
  pub fault : Option Fault
  pub latches : List (List Pair)
  pub outputs : List (List Pair)

-- the state of the checker's frame, by its fields
abbrev pub frame_state : Inside → FrameState
frame_state a = record {
  circuit = a.kept.circuit;
  fault = a.fault;
  latches = a.ends.latches.items;
  outputs = a.ends.outputs.items;
}

-- the set at a place after a frame: an output's, or what a flip-flop took
abbrev pub set_in : FrameState → Spot → List Pair
set_in s (Output o) = get_or s.outputs o []
set_in s (State j) = get_or s.latches j []
set_in s Cube = []

-- There is a set for each input, flip-flop and output of a circuit.
pub record AreEndsOf (c : Netlist) (ends : FrameEnds) : Type 0 where
  pub vector : length ends.vector.items ≡ c.inputs
  pub latches : length ends.latches.items ≡ length c.dffs
  pub outputs : length ends.outputs.items ≡ length c.outputs

-- The sets are those of the circuit, and a frame is kept.
pub record HasRoom (a : Inside) : Type 0 where
  pub circuit : IsCircuit a.kept.circuit
  pub ends : AreEndsOf a.kept.circuit a.ends
  pub some : 0 < a.kept.count

-- the sets of so many inputs, from what was decided for the variables from first on
abbrev pub inputs_by : List (Option Tern) → ℕ → ℕ → List (List Pair)
inputs_by decisions first count = map (λ var. same_pairs (get_or decisions var None)) (range_with_len first count)

-- after one frame with these sets of the inputs
abbrev pub frame_after : FrameState → List (List Pair) → FrameState
frame_after s vector = record s {
  latches = next_state s.circuit (pair_set_rules s.fault) vector s.latches;
  outputs = frame_outputs s.circuit (pair_set_rules s.fault) vector s.latches;
}

-- the sets of the latches before frame f, where the inputs have the variables from 0 on
abbrev pub latches_after : FrameState → List (Option Tern) → ℕ → List (List Pair)
latches_after s decisions zero = s.latches
latches_after s decisions (suc f) = next_state s.circuit (pair_set_rules s.fault)
    (inputs_by decisions (f * s.circuit.inputs) s.circuit.inputs) (latches_after s decisions f)

-- the sets of the outputs in frame f, where the inputs have the variables from 0 on
abbrev pub outputs_of_frame : FrameState → List (Option Tern) → ℕ → List (List Pair)
outputs_of_frame s decisions f = frame_outputs s.circuit (pair_set_rules s.fault)
    (inputs_by decisions (f * s.circuit.inputs) s.circuit.inputs) (latches_after s decisions f)
