-- Readers of a net by their offsets from the first position of its frame.
use Rattle.std.specs.Prelude.{◌≡◌, ◌<◌, ◌≤◌, ℕ, length}
use Rattle.std.specs.List.{Contains}
use Rattle.ht_events.specs.Items.{driven_net, frame_items}
use Rattle.ht_events.specs.FramePlans.{FramePlanState, reader_offset}
use Rattle.ht_relevant.specs.Distances.{DistanceState, number_of}

-- The reader at an offset is followed: a gate has a number, and a flip-flop is to get one.
pub record IsTaken (p : FramePlanState) (s : DistanceState) (offset : ℕ) : Type 0 where
  pub gate : (l : ℕ) → length p.circuit.dffs ≤ l → l < frame_items p.circuit
      → offset ≡ reader_offset p.circuit p.ranks l → number_of s (driven_net p.circuit l) ≤ s.distance
  pub dff : (l : ℕ) → l < length p.circuit.dffs → offset ≡ reader_offset p.circuit p.ranks l
      → Contains s.next (driven_net p.circuit l)
