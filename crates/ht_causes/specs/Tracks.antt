-- What is kept of machines that run side by side, and what one frame makes of it.
use Rattle.std.specs.Prelude.{◌≡◌, ◌<◌, ◌≤◌, ◌+◌, ℕ, List, [], Bool, true, false, Option, Some, None, length, get_or, take}
use Rattle.std.specs.List.{slice_get}
use Rattle.std.specs.Option.{is_none, option_map}
use Rattle.ht_tern.specs.declared.tern.Tern.{Tern}
use Rattle.ht_tern.specs.declared.tern.Tern.TheVariants.{Unk}
use Rattle.ht_tern.specs.Opposite.{are_opposite}
use Rattle.ht_net.specs.declared.fault.Fault.{Fault}
use Rattle.ht_net.specs.declared.place.Place.{Place}
use Rattle.ht_net.specs.Circuit.Netlist.{Netlist, net_count}
use Rattle.ht_net.specs.Frames.Frame.{Rules, frame_outputs, next_state}
use Rattle.ht_net.specs.Frames.Faults.{tern_rules}
use Rattle.ht_net.specs.Detect.Detection.{state_from}
use Rattle.ht_faults.specs.Sites.{faults_of}
use Rattle.ht_faults.specs.Classes.{fault_at, is_representative}
use Rattle.ht_stems.specs.Arrivals.{net_of_line}
use Rattle.ht_group.specs.NetValues.{good_value}
use Rattle.ht_group.specs.Differences.{with_differences}
use Rattle.ht_group.specs.GroupView.{AreLatches, FaultyMachine, GroupView, faulty_next, faulty_output, good_next, good_output}
use Rattle.ht_proofs.specs.LaneGrades.{HoldsLatches, more_diffs}
use Rattle.ht_causes.specs.declared.cause.Cause.{Cause}
use Rattle.ht_causes.specs.declared.cause.LatchPlace.{LatchPlace}
use Rattle.ht_causes.specs.declared.run.Run.{Run}
use Rattle.ht_causes.specs.declared.track.Track.{Track}
use Rattle.ht_causes.specs.Firsts.{least_below}
use Rattle.ht_causes.specs.Compared.{are_unlike, are_unsure, latch_place, output_place}
use Rattle.ht_causes.specs.Causes.{AreSightings, cause_at, cause_of, cause_row}
use Rattle.ht_causes.specs.Kept.{AreLatchesCompared, AreOutputsCompared, LineIsRead, no_sightings, with_carried, with_later, with_latch_pair, with_output_pair}

-- nothing is kept
abbrev pub no_track : Track
no_track = record { kept = no_sightings; diffs = [] }

-- what is kept of machine i
abbrev pub track_at : List Track → ℕ → Track
track_at tracks i = get_or tracks i no_track

-- whether something is told of machine i
abbrev pub flag_at : List Bool → ℕ → Bool
flag_at flags i = get_or flags i false

-- the lane of fault i, if it has one
abbrev pub lane_of : List (Option ℕ) → ℕ → Option ℕ
lane_of lanes i = get_or lanes i None

-- each lead is one of so many faults
abbrev pub AreLeads : List ℕ → ℕ → Type 0
AreLeads leads n = (l : ℕ) → l < length leads → get_or leads l 0 < n

-- a machine that is said to hold the good latches does
abbrev pub AreHeld : List Bool → List Track → Type 0
AreHeld holds tracks = (i : ℕ) → flag_at holds i ≡ true → (track_at tracks i).diffs ≡ []

-- what is kept once the values of an output are compared
abbrev pub output_kept : Place → Tern → Tern → Track → Track
output_kept place good faulty track =
    record track { kept = with_output_pair place good faulty track.kept }

-- what is kept once the values of a flip-flop are compared
abbrev pub latch_kept : LatchPlace → Tern → Tern → Track → Track
latch_kept place good faulty track = record {
  kept = with_latch_pair place good faulty track.kept;
  diffs = more_diffs place.dff good faulty track.diffs;
}

-- Of so many tracks from one on each has changed as a function of its lane says, and the others are as before.
pub record HaveNoted (from count : ℕ) (change : ℕ → Track → Track) (old new : List Track)
    : Type 0 where
  pub same_length : length new ≡ length old
  pub each : (k : ℕ) → k < count → track_at new (from + k) ≡ change k (track_at old (from + k))
  pub before : (i : ℕ) → i < from → track_at new i ≡ track_at old i
  pub after : (i : ℕ) → from + count ≤ i → track_at new i ≡ track_at old i

-- ---- a frame

-- output o of a machine with these rules and latches
abbrev pub shown_by : Netlist → Rules Tern → List Tern → List Tern → ℕ → Tern
shown_by c r vector latches o = get_or (frame_outputs c r vector latches) o Unk

-- what its flip-flop j takes at the end of the frame
abbrev pub taken_by : Netlist → Rules Tern → List Tern → List Tern → ℕ → Tern
taken_by c r vector latches j = get_or (next_state c r vector latches) j Unk

-- What a machine with these rules and latches shows at vector t beside the good one, and where it then differs from it.
pub record IsShown (c : Netlist) (vector good : List Tern) (r : Rules Tern) (faulty : List Tern)
    (t : ℕ) (track : Track) : Type 0 where
  pub detected : track.kept.detected ≡ option_map (output_place t) (least_below
      (λ o. are_opposite (shown_by c (tern_rules None) vector good o)
      (shown_by c r vector faulty o))
      (length c.outputs))
  pub possible : track.kept.possible ≡ option_map (output_place t) (least_below
      (λ o. are_unsure (shown_by c (tern_rules None) vector good o) (shown_by c r vector faulty o))
      (length c.outputs))
  pub stored : track.kept.stored ≡ option_map (latch_place t) (least_below
      (λ j. are_unlike (taken_by c (tern_rules None) vector good j) (taken_by c r vector faulty j))
      (length c.dffs))
  pub state : with_differences (next_state c (tern_rules None) vector good) track.diffs
      ≡ next_state c r vector faulty
  pub known : AreLatches c track.diffs

-- two machines show the same in a frame, and their flip-flops take the same
pub record ShowAlike (c : Netlist) (vector : List Tern) (r : Rules Tern) (a : List Tern)
    (s : Rules Tern) (b : List Tern) : Type 0 where
  pub outputs : frame_outputs c r vector a ≡ frame_outputs c s vector b
  pub next : next_state c r vector a ≡ next_state c s vector b

-- the latches of the machine of which this is kept
abbrev pub track_state : List Tern → Track → List Tern
track_state good track = with_differences good track.diffs

-- what is kept of a fault once it is known what its machine shows at vector t, and what its line carries
abbrev pub with_frame : ℕ → Tern → Bool → Track → Track → Track
with_frame t carried stuck shown track = record {
  kept = with_later shown.kept (with_carried t carried stuck track.kept);
  diffs = shown.diffs;
}

-- ---- the machines of a word

-- the machine of fault i
abbrev pub lead_machine : Netlist → List Tern → List Track → ℕ → FaultyMachine
lead_machine c good tracks i = record {
  fault = fault_at c i;
  latches = track_state good (track_at tracks i);
}

-- A group has the machines of n faults from lead `from` on.
pub record AreAdded (c : Netlist) (vector good : List Tern) (tracks : List Track) (leads : List ℕ)
    (from n : ℕ) (g : GroupView) : Type 0 where
  pub circuit : g.circuit ≡ c
  pub vector_same : g.vector ≡ vector
  pub latches_same : g.latches ≡ good
  pub count : length g.machines ≡ n
  pub each : (k : ℕ) → k < n → slice_get g.machines k
      ≡ Some (lead_machine c good tracks (get_or leads (from + k) 0))

-- The frame of the good machine alone.
pub record IsGoodAlone (c : Netlist) (vector good : List Tern) (g : GroupView) : Type 0 where
  pub circuit : g.circuit ≡ c
  pub vector_same : g.vector ≡ vector
  pub latches_same : g.latches ≡ good
  pub none : g.machines ≡ []

-- The outputs below n of vector t were compared in `count` lanes, of which the first stands at `from`.
pub record AreOutputsShown (g : GroupView) (t n from count : ℕ) (old new : List Track)
    : Type 0 where
  pub same_length : length new ≡ length old
  pub each : (k : ℕ) (m : FaultyMachine) → slice_get g.machines k ≡ Some m
      → AreOutputsCompared t n (good_output g) (faulty_output g m) (track_at old (from + k)).kept
      (track_at new (from + k)).kept
  pub diffs : (k : ℕ) → k < count
      → (track_at new (from + k)).diffs ≡ (track_at old (from + k)).diffs
  pub before : (i : ℕ) → i < from → track_at new i ≡ track_at old i
  pub after : (i : ℕ) → from + count ≤ i → track_at new i ≡ track_at old i

-- The flip-flops below n were compared after vector t, and hold what is kept.
pub record AreLatchesShown (g : GroupView) (t n from count : ℕ) (old new : List Track)
    : Type 0 where
  pub same_length : length new ≡ length old
  pub each : (k : ℕ) (m : FaultyMachine) → slice_get g.machines k ≡ Some m
      → AreLatchesCompared t n (good_next g) (faulty_next g m) (track_at old (from + k)).kept
      (track_at new (from + k)).kept
  pub held : (k : ℕ) (m : FaultyMachine) → slice_get g.machines k ≡ Some m
      → HoldsLatches g m None (record { verdict = None; diffs = (track_at new (from + k)).diffs })
  pub before : (i : ℕ) → i < from → track_at new i ≡ track_at old i
  pub after : (i : ℕ) → from + count ≤ i → track_at new i ≡ track_at old i

-- The machines of the leads below n have run, and the later lanes are empty.
pub record AreRun (c : Netlist) (vector good : List Tern) (tracks : List Track) (leads : List ℕ)
    (t n : ℕ) (shown : List Track) : Type 0 where
  pub count : length shown ≡ length leads
  pub each : (l : ℕ) → l < n
      → IsShown c vector good (tern_rules (Some (fault_at c (get_or leads l 0))))
      (track_state good (track_at tracks (get_or leads l 0))) t (track_at shown l)
  pub later : (l : ℕ) → n ≤ l → track_at shown l ≡ no_track

-- ---- a list of vectors

-- What is kept of a fault after the first t vectors.
pub record IsTracked (c : Netlist) (fault : Fault) (start : List Tern) (list : List (List Bool))
    (t : ℕ) (track : Track) : Type 0 where
  pub kept : AreSightings c fault start list t track.kept
  pub state : track_state (state_from c None start (take t list)) track
      ≡ state_from c (Some fault) start (take t list)

-- the cause that is kept of a fault is its cause over the whole list
abbrev pub KeepsCause : Netlist → Fault → List Tern → List (List Bool) → Track → Type 0
KeepsCause c fault start list track = cause_row track.kept.detected track.kept.possible
    track.kept.stored track.kept.excited track.kept.told ≡ cause_of c fault start list

-- each difference that is kept is at a flip-flop of the circuit
abbrev pub AreTracksWithin : Netlist → List Track → Type 0
AreTracksWithin c tracks = (i : ℕ) → AreLatches c (track_at tracks i).diffs

-- Of each fault that is simulated it is kept what the first t vectors show, and of each other representative its cause.
pub record AreTracked (c : Netlist) (representatives : List ℕ) (start : List Tern)
    (list : List (List Bool)) (t : ℕ) (live : List Bool) (tracks : List Track) : Type 0 where
  pub running : (i : ℕ) → i < length (faults_of c) → get_or live i false ≡ true
      → IsTracked c (fault_at c i) start list t (track_at tracks i)
  pub done : (i : ℕ) → i < length (faults_of c) → is_representative representatives i ≡ true
      → get_or live i false ≡ false → KeepsCause c (fault_at c i) start list (track_at tracks i)

-- what is kept of a lane, and nothing where a fault has none
abbrev pub shown_in : List Track → Option ℕ → Track
shown_in shown None = no_track
shown_in shown (Some l) = track_at shown l

-- what is kept of fault i after a frame
abbrev pub noted_track : Netlist → GroupView → ℕ → List (Option ℕ) → List Track → List Track → ℕ
    → Track
noted_track c g t lanes shown tracks i =
    with_frame t (good_value g (net_of_line c (fault_at c i).site).0) (fault_at c i).value
    (shown_in shown (get_or lanes i None)) (track_at tracks i)

-- The first n faults were noted: those that are simulated have one frame more, and go on while they aren't detected.
pub record AreFaultsNoted (c : Netlist) (g : GroupView) (t : ℕ) (lanes : List (Option ℕ))
    (shown : List Track) (n : ℕ) (live : List Bool) (tracks : List Track) (on : List Bool)
    (new : List Track) : Type 0 where
  pub on_count : length on ≡ length live
  pub track_count : length new ≡ length tracks
  pub each : (i : ℕ) → i < n → get_or live i false ≡ true
      → (track_at new i ≡ noted_track c g t lanes shown tracks i)
      × (get_or on i false ≡ is_none (track_at new i).kept.detected)
  pub idle : (i : ℕ) → get_or live i false ≡ false
      → (track_at new i ≡ track_at tracks i) × (get_or on i false ≡ false)
  pub later : (i : ℕ) → n ≤ i
      → (track_at new i ≡ track_at tracks i) × (get_or on i false ≡ get_or live i false)

-- No fault that is simulated is detected, what a fault's line carries changes nothing where it was read, and a machine
-- that is said to hold the good latches does.
pub record AreFlags (live read holds : List Bool) (tracks : List Track) : Type 0 where
  pub open_still : (i : ℕ) → get_or live i false ≡ true → (track_at tracks i).kept.detected ≡ None
  pub read_all : (i : ℕ) → get_or read i false ≡ true → LineIsRead (track_at tracks i).kept
  pub held : AreHeld holds tracks

-- The machines are those of the circuit, and something is kept of each fault.
pub record IsRunReady (c : Netlist) (run : Run) : Type 0 where
  pub group : run.group.circuit ≡ c
  pub arrivals : run.arrivals.circuit ≡ c
  pub table : length run.firsts.items ≡ net_count c
  pub latch_count : length run.latches.items ≡ length c.dffs
  pub live_count : length run.live.items ≡ length (faults_of c)
  pub track_count : length run.tracks.items ≡ length (faults_of c)
  pub read_count : length run.read.items ≡ length (faults_of c)
  pub holds_count : length run.holds.items ≡ length (faults_of c)
  pub within : AreTracksWithin c run.tracks.items
  pub kept : AreFlags run.live.items run.read.items run.holds.items run.tracks.items
  pub nothing : run.nothing ≡ no_track

-- the vector of a list with the number t
abbrev pub IsVectorAt : List (List Bool) → ℕ → List Bool → Type 0
IsVectorAt list t vector = vector ≡ get_or list t []

-- The machines have run through the first t vectors of a list from a start.
pub record HasRun (c : Netlist) (representatives : List ℕ) (start : List Tern)
    (list : List (List Bool)) (t : ℕ) (run : Run) : Type 0 where
  pub latches : run.latches.items ≡ state_from c None start (take t list)
  pub tracked : AreTracked c representatives start list t run.live.items run.tracks.items

-- The first n entries are the causes that are kept.
pub record AreCausesKept (tracks : List Track) (n : ℕ) (causes : List Cause) : Type 0 where
  pub count : length causes ≡ n
  pub each : (i : ℕ) → i < n → cause_at causes i ≡ cause_row (track_at tracks i).kept.detected
      (track_at tracks i).kept.possible (track_at tracks i).kept.stored
      (track_at tracks i).kept.excited (track_at tracks i).kept.told
