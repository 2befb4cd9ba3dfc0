-- When a list of forbidden cubes refutes a fault.
use Rattle.std.specs.Prelude.{ℕ, List, Bool, true, false, Some, None, get_or}
use Rattle.ht_tern.specs.declared.tern.Tern.{Tern}
use Rattle.ht_tern.specs.declared.tern.Tern.TheVariants.{Unk}
use Rattle.ht_tern.specs.Opposite.{Opposite}
use Rattle.ht_net.specs.declared.fault.Fault.{Fault}
use Rattle.ht_net.specs.Circuit.Netlist.{Netlist}
use Rattle.ht_net.specs.Frames.Frame.{frame_outputs, next_state}
use Rattle.ht_net.specs.Frames.Faults.{tern_rules}
use Rattle.ht_net.specs.Detect.Detection.{terns_of}
use Rattle.ht_cubes.specs.declared.rail.Rail.{Rail}
use Rattle.ht_cubes.specs.Rails.{JointState, latches_of, both, stuck_line, AvoidsAll, AgreesOutside, IsCone}

-- The joint state after one frame of both machines.
abbrev pub next_joint : Netlist → Fault → List Bool → JointState → JointState
next_joint c fault vector s = record {
  good = next_state c (tern_rules None) (terns_of vector) s.good;
  faulty = next_state c (tern_rules (Some fault)) (terns_of vector) s.faulty;
}

-- What output o of one machine shows in a frame from a joint state.
abbrev pub joint_output : Netlist → Fault → List Bool → JointState → Bool → ℕ → Tern
joint_output c fault vector s faulty o =
    get_or (frame_outputs c (tern_rules (stuck_line fault faulty)) (terns_of vector) (latches_of s faulty)) o Unk

-- Cubes are kept from: after every vector in every joint state that avoids all cubes and agrees outside the cone, the
-- next joint state avoids all cubes, and no output is definite and opposite.
pub record AreKeptFrom (c : Netlist) (fault : Fault) (cone : ℕ → Bool) (cubes : List (List Rail)) : Type 0 where
  pub stays : (vector : List Bool) (s : JointState) → AgreesOutside c cone s → AvoidsAll s cubes
      → AvoidsAll (next_joint c fault vector s) cubes
  pub silent : (vector : List Bool) (s : JointState) → AgreesOutside c cone s → AvoidsAll s cubes
      → (o : ℕ) → ¬ Opposite (joint_output c fault vector s false o) (joint_output c fault vector s true o)

-- A list of cubes refutes a fault from a start: both machines at the start avoid each cube, and the cubes are kept
-- from.
pub record CubesRefute (c : Netlist) (fault : Fault) (start : List Tern) (cubes : List (List Rail)) : Type 0 where
  pub cone : ℕ → Bool
  pub is_cone : IsCone c fault cone
  pub starts : AvoidsAll (both start) cubes
  pub kept : AreKeptFrom c fault cone cubes
