-- Up to 64 machines in a word, in a frame and over a set of pending nets that other words share.
use Rattle.std.specs.Prelude.{◌≡◌, ◌≢◌, ◌<◌, ◌≤◌, ◌+◌, ◌-◌, ◌*◌, ◌++◌, ◌∷◌, [], ℕ, List, Bool, Some, true, false, min, length, get_or, take, drop}
use Rattle.ht_group.specs.declared.diffs.Diff.{Diff}
use Rattle.ht_group.specs.Differences.{with_differences}
use Rattle.ht_lanes.specs.Lanes.{Lanes}
use Rattle.ht_net.specs.declared.fault.Fault.{Fault}
use Rattle.ht_net.specs.Circuit.Netlist.{Netlist, first_gate_net, net_count}
use Rattle.ht_group.specs.GroupView.{FaultyMachine, lane_count}
use Rattle.ht_group.specs.LaneRules.{in_lane, lane_env}
use Rattle.ht_group.specs.LatchWords.{HasDifferences}
use Rattle.ht_group.specs.Overlays.{IsSpread}
use Rattle.ht_group.specs.Pending.{AreGiven, QuietHaveValues}
use Rattle.ht_group.specs.StuckTables.{AreGateLanes, AreStuck, forced_net_of}
use Rattle.ht_group.specs.declared.good_frame.GoodFrame.{GoodFrame}
use Rattle.ht_group.specs.declared.machines.Machines.{Machines}
use Rattle.ht_group.specs.declared.shared_frame.SharedFrame.{SharedFrame}
use Rattle.ht_events.specs.declared.schedule.Schedule.{Schedule}

-- the machines of lanes k, k + 1, .., by their faults and the words of the latches
abbrev pub machines_from : ℕ → List Fault → List Lanes → List FaultyMachine
machines_from k [] latches = []
machines_from k (fault ∷ faults) latches =
    record { fault = fault; latches = in_lane k latches } ∷ machines_from (k + 1) faults latches

-- the machines of a word
abbrev pub machines_of : Netlist → Machines → List FaultyMachine
machines_of c m = machines_from 0 m.lines.faults.items (drop c.inputs m.sources.words)

-- there is room for a circuit's lines, sources and nets
pub record HasWordRoom (c : Netlist) (m : Machines) : Type 0 where
  pub stuck : AreStuck c m.lines
  pub sources : length m.sources.good ≡ first_gate_net c
  pub nets : length m.nets.good ≡ net_count c

-- no machines, and over no frame
pub record IsBare (c : Netlist) (m : Machines) : Type 0 where
  pub room : HasWordRoom c m
  pub none : m.lines.faults.items ≡ []
  pub unlaid : m.laid ≡ false

-- The words lie over a frame. A lane without a machine has the good latches; each net that isn't pending has its value
-- in each machine, and where there are no machines each net has, whatever is pending for other words.
pub record IsLaid (c : Netlist) (s : Schedule) (frame : GoodFrame) (pending : List Bool) (m : Machines) : Type 0 where
  pub sources : m.sources.good ≡ frame.sources.items
  pub nets : m.nets.good ≡ frame.values.items
  pub source_count : length m.sources.words ≡ first_gate_net c
  pub inputs : (k : ℕ) → k < 64 → take c.inputs (in_lane k m.sources.words) ≡ take c.inputs m.sources.good
  pub spare : (k : ℕ) → length m.lines.faults.items ≤ k → k < 64 → in_lane k m.sources.words ≡ m.sources.good
  pub quiet : QuietHaveValues c s m.lines.faults.items m.sources.words pending m.nets.words
  pub still : m.lines.faults.items ≡ [] → QuietHaveValues c s m.lines.faults.items m.sources.words [] m.nets.words

-- the machines of a word, which lies over the frame where it has one
pub record IsWord (c : Netlist) (s : Schedule) (frame : GoodFrame) (pending : List Bool) (m : Machines) : Type 0 where
  pub room : HasWordRoom c m
  pub bare : m.laid ≡ false → m.lines.faults.items ≡ []
  pub laid : m.laid ≡ true → IsLaid c s frame pending m

-- the same in a frame that words share
abbrev pub IsWordIn : SharedFrame → Machines → Type 0
IsWordIn frame m = IsWord frame.circuit.now frame.schedule frame.good frame.pending m

-- a machine whose latches are the good ones of a frame but for differences
abbrev pub machine_but : SharedFrame → Fault → List Diff → FaultyMachine
machine_but frame fault diffs = record {
  fault = fault;
  latches = with_differences (drop frame.circuit.now.inputs frame.good.sources.items) diffs;
}

-- words are filled in turn: word w has what is left of n machines after those before it, up to 64
abbrev pub AreFilled : ℕ → List Machines → Type 0
AreFilled n words = (w : ℕ) (d : Machines) → w < length words
    → length (get_or words w d).lines.faults.items ≡ min lane_count (n - lane_count * w)

-- the words are laid over a frame, if they weren't
pub record IsLaidOver (frame : GoodFrame) (old new : Machines) : Type 0 where
  pub lines : new.lines ≡ old.lines
  pub laid : new.laid ≡ true
  pub same : old.laid ≡ true → new ≡ old
  pub sources : old.laid ≡ false → IsSpread frame.sources.items new.sources
  pub nets : old.laid ≡ false → IsSpread frame.values.items new.nets

-- the same faults over the same words
pub record AreSameMachines (old new : Machines) : Type 0 where
  pub faults : new.lines.faults.items ≡ old.lines.faults.items
  pub sources : new.sources ≡ old.sources
  pub nets : new.nets ≡ old.nets
  pub laid : new.laid ≡ old.laid

-- One machine more: its lane has its latches, and the nets that its fault or a latch touches are pending.
pub record IsMachineAdded (c : Netlist) (s : Schedule) (fault : Fault) (diffs : List Diff) (old : Machines)
    (before : List Bool) (new : Machines) (pending : List Bool) : Type 0 where
  pub more : new.lines.faults.items ≡ old.lines.faults.items ++ fault ∷ []
  pub good : new.sources.good ≡ old.sources.good
  pub nets : new.nets ≡ old.nets
  pub laid : new.laid ≡ old.laid
  pub put : HasDifferences c s (length old.lines.faults.items) diffs old.sources before new.sources.words pending
  pub forced : (r : ℕ) → r < net_count c → get_or pending r false ≡ false
      → forced_net_of c fault.site ≢ Some (get_or s.order.items r 0)

-- no machines any more, and what they changed is as in the good machine
pub record IsRestored (c : Netlist) (old new : Machines) : Type 0 where
  pub stuck : AreStuck c new.lines
  pub none : new.lines.faults.items ≡ []
  pub sources : IsSpread old.sources.good new.sources
  pub nets : IsSpread old.nets.good new.nets
  pub laid : new.laid ≡ old.laid

-- the machines are the same, whatever their nets have
pub record AreMachinesKept (old new : Machines) : Type 0 where
  pub lines : new.lines ≡ old.lines
  pub sources : new.sources ≡ old.sources
  pub good : new.nets.good ≡ old.nets.good
  pub laid : new.laid ≡ old.laid

-- what an evaluation reads belongs to the circuit, in one word and in the first ones
pub record HasRunRoom (c : Netlist) (m : Machines) : Type 0 where
  pub stuck : AreStuck c m.lines
  pub sources : length m.sources.words ≡ first_gate_net c
  pub nets : length m.nets.good ≡ net_count c

-- Each of the first words has room for a run.
abbrev pub HaveRunRoom : Netlist → ℕ → List Machines → Type 0
HaveRunRoom c used words = (w : ℕ) (d : Machines) → w < used → HasRunRoom c (get_or words w d)

-- net x is a gate's, there are four words with machines, and in none of them a pin of the gate is stuck
pub record HaveFreePins (c : Netlist) (x used : ℕ) (words : List Machines) : Type 0 where
  pub gate : first_gate_net c ≤ x
  pub all : used ≡ 4
  pub four : length words ≡ 4
  pub free : (w : ℕ) (d : Machines) → w < 4
      → AreGateLanes (get_or words w d).lines.faults.items (x - first_gate_net c) 0

-- What an evaluation reads belongs to the circuit, and each net that isn't pending has its value in each machine.
pub record AreRunning (c : Netlist) (s : Schedule) (pending : List Bool) (m : Machines) : Type 0 where
  pub room : HasRunRoom c m
  pub quiet : QuietHaveValues c s m.lines.faults.items m.sources.words pending m.nets.words

-- Net x has what its driver and its stem give it, and the others are as before; so is this one where none changed.
pub record IsComputed (c : Netlist) (x : ℕ) (changed : Bool) (old new : Machines) : Type 0 where
  pub kept : AreMachinesKept old new
  pub given : AreGiven c old.lines.faults.items old.sources.words old.nets.words x
      (λ k. lane_env k new.nets.words x)
  pub others : (k y : ℕ) → y ≢ x → lane_env k new.nets.words y ≡ lane_env k old.nets.words y
  pub unchanged : changed ≡ false → new.nets.words ≡ old.nets.words

-- the same machines, and each net that isn't pending has its value in each
pub record HaveRun (c : Netlist) (s : Schedule) (pending : List Bool) (old new : Machines) : Type 0 where
  pub kept : AreMachinesKept old new
  pub running : AreRunning c s pending new

-- Of each of the first words a change is known, and the others are as before.
pub record AreFirstChanged (used : ℕ) (P : Machines → Machines → Type 0) (old new : List Machines) : Type 0 where
  pub count : length new ≡ length old
  pub each : (w : ℕ) (d : Machines) → w < used → P (get_or old w d) (get_or new w d)
  pub rest : (w : ℕ) (d : Machines) → used ≤ w → get_or new w d ≡ get_or old w d

-- a word with one machine more, or with the same machines
abbrev pub HasOneMore : Netlist → Machines → FaultyMachine → Machines → Type 0
HasOneMore c old one new = machines_of c new ≡ machines_of c old ++ one ∷ []

-- The machines are the same ones as before.
abbrev pub HasSame : Netlist → Machines → Machines → Type 0
HasSame c old new = machines_of c new ≡ machines_of c old
