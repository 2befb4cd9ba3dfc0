-- Where what a machine shows contradicts what was observed. A machine is the good one or has one stuck line; it runs
-- over three values from all-unknown.
use Rattle.std.specs.Prelude.{◌≡◌, ℕ, List, [], Bool, Option, length, get_or, MatchOption}
use Rattle.ht_tern.specs.declared.tern.Tern.{Tern}
use Rattle.ht_tern.specs.declared.tern.Tern.TheVariants.{Unk}
use Rattle.ht_tern.specs.Opposite.{Opposite}
use Rattle.ht_net.specs.declared.fault.Fault.{Fault}
use Rattle.ht_net.specs.declared.place.Place.{Place}
use Rattle.ht_net.specs.Circuit.Netlist.{Netlist}
use Rattle.ht_net.specs.Frames.Rows.{Rows}
use Rattle.ht_net.specs.Detect.Detection.{output_at, IsBefore}
use Rattle.ht_serial.specs.ObservationView.{ObservationView}

-- what was observed at output o of vector t
abbrev pub observed_at : List (List Tern) → ℕ → ℕ → Tern
observed_at rows t o = get_or (get_or rows t []) o Unk

-- The machine shows at output o of vector t the opposite of what was observed there: both are definite.
abbrev pub Contradicts : Netlist → Option Fault → List (List Bool) → List (List Tern)
    → ℕ → ℕ → Type 0
Contradicts c fault list rows t o = Opposite (observed_at rows t o) (output_at c fault list t o)

-- the first place where the machine contradicts the observation, or none where it is consistent
abbrev pub IsFirstContradiction : Netlist → Option Fault → List (List Bool) → List (List Tern)
    → Option Place → Type 0
IsFirstContradiction c fault list rows place =
    MatchOption place ((t o : ℕ) → ¬ Contradicts c fault list rows t o)
    (λ p. Contradicts c fault list rows p.vector p.output
    × ((t o : ℕ) → IsBefore t o p → ¬ Contradicts c fault list rows t o))

-- the observation is one of the circuit's outputs at each vector of a list
pub record IsObservedOver (c : Netlist) (list : Rows) (observation : ObservationView) : Type 0 where
  pub inputs : list.width ≡ c.inputs
  pub outputs : observation.width ≡ length c.outputs
  pub each : length observation.rows ≡ length list.list
