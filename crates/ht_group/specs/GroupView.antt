-- A group of faulty machines in one frame of a circuit, as contracts see it.
use Rattle.std.specs.Prelude.{◌≡◌, ◌<◌, ◌≤◌, ◌+◌, ◌-◌, ◌*◌, ◌/◌, ℕ, List, Bool, All, Some, None, length, get_or}
use Rattle.std.specs.List.{slice_get}
use Rattle.ht_tern.specs.declared.tern.Tern.{Tern}
use Rattle.ht_tern.specs.declared.tern.Tern.TheVariants.{Unk}
use Rattle.ht_net.specs.declared.fault.Site.{Site}
use Rattle.ht_net.specs.declared.fault.Site.TheVariants.{Stem, DffPin, GatePin}
use Rattle.ht_net.specs.declared.fault.Fault.{Fault}
use Rattle.ht_net.specs.Circuit.Netlist.{Netlist, net_count}
use Rattle.ht_net.specs.Frames.Frame.{frame_outputs, next_state}
use Rattle.ht_net.specs.Frames.Faults.{tern_rules}
use Rattle.ht_group.specs.declared.diffs.Diff.{Diff}

-- A machine with a fault, and what its flip-flops hold before the frame.
pub record FaultyMachine : Type 0 where
  pub fault : Fault
  pub latches : List Tern

-- A frame of a circuit: the good machine's vector and latches, and the faulty machines that run beside it. Machine
-- 64 * w + k stands in lane k of word w.
pub record GroupView : Type 0 where
  pub circuit : Netlist
  pub vector : List Tern
  pub latches : List Tern
  pub machines : List FaultyMachine
  -- whether each net has its value in each machine
  pub settled : Bool

-- what the good machine shows at output o in the frame, and what its latch j is after it
abbrev pub good_output : GroupView → ℕ → Tern
good_output g o = get_or (frame_outputs g.circuit (tern_rules None) g.vector g.latches) o Unk

-- what flip-flop j of the good machine takes at the end of the frame
abbrev pub good_next : GroupView → ℕ → Tern
good_next g j = get_or (next_state g.circuit (tern_rules None) g.vector g.latches) j Unk

-- what a machine shows at output o in the frame, and what its latch j is after it
abbrev pub faulty_output : GroupView → FaultyMachine → ℕ → Tern
faulty_output g m o = get_or (frame_outputs g.circuit (tern_rules (Some m.fault)) g.vector m.latches) o Unk

-- what flip-flop j of a faulty machine takes at the end of the frame
abbrev pub faulty_next : GroupView → FaultyMachine → ℕ → Tern
faulty_next g m j = get_or (next_state g.circuit (tern_rules (Some m.fault)) g.vector m.latches) j Unk

-- the circuit has the net, the gate or the flip-flop of a site
abbrev pub HasSite : Netlist → Site → Type 0
HasSite c (Stem x) = x.0 < net_count c
HasSite c (DffPin j) = j < length c.dffs
HasSite c (GatePin g i) = g < length c.gates

-- each difference is at a flip-flop of the circuit
abbrev pub AreLatches : Netlist → List Diff → Type 0
AreLatches c diffs = All (λ (d : Diff). d.latch < length c.dffs) diffs

-- the machines of a word
abbrev pub lane_count : ℕ
lane_count = 64

-- how many words so many machines take
abbrev pub words_for : ℕ → ℕ
words_for n = (n + (lane_count - 1)) / lane_count

-- the most words of a group, and so the most machines
abbrev pub max_words : ℕ
max_words = 4

-- the most faulty machines of a group
abbrev pub max_machines : ℕ
max_machines = 256

-- In each lane of word w stands what its machine has, and in a lane without a machine what the good machine has.
pub record AreInLanes {A : Type 0} (g : GroupView) (w : ℕ) (at : ℕ → A) (faulty : FaultyMachine → A) (good : A)
    : Type 0 where
  pub machines : (k : ℕ) (m : FaultyMachine) → k < lane_count
      → slice_get g.machines (lane_count * w + k) ≡ Some m → at k ≡ faulty m
  pub others : (k : ℕ) → k < lane_count → length g.machines ≤ lane_count * w + k → at k ≡ good
