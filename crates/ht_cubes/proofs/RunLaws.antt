-- A fault that cubes refute is detected by no list.
use Rattle.std.proofs.Common.{ℕ, suc, zero, List, [], ◌∷◌, map, Bool, Some, None, get_or, refl}
use Rattle.ht_tern.specs.declared.tern.Tern.{Tern}
use Rattle.ht_tern.specs.declared.tern.Tern.TheVariants.{Unk}
use Rattle.ht_tern.specs.Opposite.{Opposite}
use Rattle.ht_net.specs.declared.fault.Fault.{Fault}
use Rattle.ht_net.specs.Circuit.Netlist.{Netlist, IsCircuit}
use Rattle.ht_net.specs.Frames.Frame.{run_outputs}
use Rattle.ht_net.specs.Frames.Faults.{tern_rules}
use Rattle.ht_net.specs.Detect.Detection.{DetectsFrom, IsStart, terns_of, unknown_state}
use Rattle.ht_net.proofs.MoreToldLaws.{detects_where_refined, start_refines_unknown}
use Rattle.ht_cubes.specs.declared.rail.Rail.{Rail}
use Rattle.ht_cubes.specs.Rails.{JointState, AvoidsAll, AgreesOutside, IsCone, both}
use Rattle.ht_net.specs.Detect.Undetectable.{IsUndetectable}
use Rattle.ht_cubes.specs.Cubes.{AreKeptFrom, CubesRefute, next_joint}
use Rattle.ht_cubes.proofs.OutsideLaws.{next_outside}

module _ (c : Netlist) (circuit : IsCircuit c) (fault : Fault) (cone : ℕ → Bool) (is_cone : IsCone c fault cone)
    (cubes : List (List Rail)) (kept : AreKeptFrom c fault cone cubes) where
  runs_silent : (list : List (List Bool)) (s : JointState) → AgreesOutside c cone s → AvoidsAll s cubes → (t o : ℕ)
      → ¬ Opposite (get_or (get_or (run_outputs c (tern_rules None) s.good (map terns_of list)) t []) o Unk)
      (get_or (get_or (run_outputs c (tern_rules (Some fault)) s.faulty (map terns_of list)) t []) o Unk)
  runs_silent [] s agree avoids t o h = h
  runs_silent (vector ∷ list) s agree avoids zero o h = kept.silent vector s agree avoids o h
  runs_silent (vector ∷ list) s agree avoids (suc t) o h = runs_silent list (next_joint c fault vector s)
      (next_outside c circuit fault cone is_cone.encloses (terns_of vector) s.good s.faulty agree)
      (kept.stays vector s agree avoids) t o h

-- a fault that cubes refute is detected by no list from the start
pub cubes_silent : (c : Netlist) (fault : Fault) (start : List Tern) (cubes : List (List Rail)) → IsCircuit c
    → CubesRefute c fault start cubes → (list : List (List Bool)) (t o : ℕ) → ¬ DetectsFrom c fault start list t o
cubes_silent c fault start cubes circuit h list t o =
    runs_silent c circuit fault h.cone h.is_cone cubes h.kept list (both start) (λ j inside out. refl) h.starts t o

-- a fault that cubes refute from a start is undetectable, from there and from all-unknown
pub refuted_undetectable : (c : Netlist) (fault : Fault) (start : List Tern) (cubes : List (List Rail)) → IsCircuit c
    → IsStart c start → CubesRefute c fault start cubes → IsUndetectable c fault start
refuted_undetectable c fault start cubes circuit is h = record {
  from_start = cubes_silent c fault start cubes circuit h;
  from_unknown = λ list t o d. cubes_silent c fault start cubes circuit h list t o
      (detects_where_refined c fault start (unknown_state c) list t o (start_refines_unknown c start is) d);
}
