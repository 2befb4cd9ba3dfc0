-- How the fields of kept frames stand for them.
use Rattle.std.specs.Prelude.{ℕ, length}
use Rattle.std.specs.List.{All}
use Rattle.ht_net.specs.Circuit.Netlist.{Netlist}
use Rattle.ht_events.specs.Schedules.{IsSchedule}
use Rattle.ht_recompute.specs.NetSetsOf.{AreNetSets}
use Rattle.ht_recompute.specs.declared.kept_frames.KeptFrames.TheInside.{Inside}

-- A circuit, and how many frames of it are kept.
pub record KeptState : Type 0 where
  pub circuit : Netlist
  pub count : ℕ

-- the circuit and the count, by the fields of frames that are kept
abbrev pub kept_state : Inside → KeptState
kept_state a = record { circuit = a.circuit.now; count = length a.sets.items }

-- The schedule is the circuit's, and the frames go by it.
pub record AreKeptFrames (a : Inside) : Type 0 where
  pub schedule : IsSchedule a.circuit.now a.schedule.value
  pub frames : All (AreNetSets a.circuit.now a.schedule.value) a.sets.items
