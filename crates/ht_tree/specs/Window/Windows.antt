-- Windows: some frames of the good and of the faulty machine over sets of pairs, from a stated start. A search decides
-- the inputs of each frame and, where the start leaves them a choice, the latches of the first frame.
--
-- With n inputs and m flip-flops, variable f * n + i is input i of frame f, and these are the starts:
--
-- | start                    | frames | latches of frame 0     | their variables            | places             |
-- |--------------------------|--------|------------------------|----------------------------|--------------------|
-- | `one_frame z`            | 1      | {00,11}; in z all four | n + j: latch j, or its     | outputs, then next |
-- |                          |        | pairs of bits          | good half in z; n + m + j: | states of latches  |
-- |                          |        |                        | its faulty half, in z      | outside z          |
-- | `unknown`                | k      | {XX}                   | none                       | outputs, by frames |
-- | `state_pair good faulty` | k      | a given pair of each   | none                       | outputs, by frames |
-- | `back cube limit`        | 1      | {00,11,XX}, in the     | n + j: latch j, to 0, 1    | next states of the |
-- |                          |        | good machine alone     | or X                       | cube's latches     |
--
-- An input that is undecided is {00,11}. In later frames a latch has the set that its data pin had one frame before.
use Rattle.std.specs.Prelude.{◌≡◌, ◌<◌, ◌+◌, ◌*◌, ℕ, suc, zero, List, [], ◌∷◌, map, Bool, nat_lt, length, get_or, Option, Some, None}
use Rattle.std.specs.List.{range_with_len}
use Rattle.ht_tern.specs.declared.tern.Tern.{Tern}
use Rattle.ht_tern.specs.declared.tern.Tern.TheVariants.{Unk}
use Rattle.ht_pairs.specs.Pairs.{Pair, pair, lifted_set, stuck_set}
use Rattle.ht_net.specs.declared.fault.Fault.{Fault}
use Rattle.ht_net.specs.Circuit.Netlist.{Netlist, IsCircuit, first_gate_net}
use Rattle.ht_net.specs.Frames.Frame.{Rules, net_value, next_state}
use Rattle.ht_net.specs.Frames.Faults.{rules_of}
use Rattle.ht_tree.specs.declared.token.Assign3.{Assign3}
use Rattle.ht_pairs.specs.Decided.{same_pairs}
use Rattle.ht_tree.specs.Window.Decisions.{is_in, decided_value, latch_values_left, latch_pairs}

-- What is known of the latches of the first frame.
-- `one_frame z`: the two machines may differ at the flip-flops of z and nowhere else.
-- `unknown`: nothing. `state_pair good faulty`: a state of each machine.
-- `back cube limit`: of the good machine's latches nothing. After the frame they are to have the cube's values, where
-- it wants one, and at most `limit` frames, this one among them, may lead there.
pub data Start : Type 0 where
  one_frame : List ℕ → Start
  unknown : Start
  state_pair : List Tern → List Tern → Start
  back : List Tern → ℕ → Start

-- A window of a circuit and a fault, or of the good machine alone.
pub record SearchWindow : Type 0 where
  pub circuit : Netlist
  pub fault : Option Fault
  pub frames : ℕ
  pub start : Start

-- The one-frame window of a set of flip-flops: the machines may differ at these, and a difference at another place is
-- looked for.
abbrev pub one_frame_window : Netlist → Fault → List ℕ → SearchWindow
one_frame_window c fault z = record { circuit = c; fault = Some fault; frames = 1; start = one_frame z }

-- The window of a sweep: so many frames from all-unknown, and a difference at an output is looked for.
abbrev pub sweep_window : Netlist → Fault → ℕ → SearchWindow
sweep_window c fault frames = record { circuit = c; fault = Some fault; frames = frames; start = unknown }

-- The window from a state of each machine: so many frames, and a difference at an output is looked for.
abbrev pub forward_window : Netlist → Fault → ℕ → List Tern → List Tern → SearchWindow
forward_window c fault frames good faulty =
    record { circuit = c; fault = Some fault; frames = frames; start = state_pair good faulty }

-- The window back from a cube: one frame of the good machine, and next states with the cube's values are looked for.
abbrev pub back_window : Netlist → List Tern → ℕ → SearchWindow
back_window c cube limit = record { circuit = c; fault = None; frames = 1; start = back cube limit }

-- a start fits so many frames and a fault: one frame with a set or a cube, a value for each flip-flop, no fault with a
-- cube
abbrev pub IsStart : Netlist → Option Fault → ℕ → Start → Type 0
IsStart c fault frames (one_frame z) = frames ≡ 1
IsStart c fault frames unknown = 0 < frames
IsStart c fault frames (state_pair good faulty) =
    (0 < frames) × (length good ≡ length c.dffs) × (length faulty ≡ length c.dffs)
IsStart c fault frames (back cube limit) = (frames ≡ 1) × (length cube ≡ length c.dffs) × (fault ≡ None)

-- what a token weighs in a window: the number of its frames
abbrev pub token_weight : SearchWindow → ℕ
token_weight w = w.frames

-- so many frames has the window of a search forward from a pair of states
abbrev pub forward_frames : ℕ
forward_frames = 16

-- A window of a well-formed circuit, with a start that fits it.
pub record IsWindow (w : SearchWindow) : Type 0 where
  pub circuit : IsCircuit w.circuit
  pub start : IsStart w.circuit w.fault w.frames w.start

-- both machines over sets of pairs: a stuck line shows its bit in the faulty half
abbrev pub pair_set_rules : Option Fault → Rules (List Pair)
pair_set_rules fault = rules_of (pair Unk Unk ∷ []) lifted_set stuck_set fault

-- the variable of input 0 in frame f
abbrev pub first_input : SearchWindow → ℕ → ℕ
first_input w f = f * w.circuit.inputs

-- the set of an input by its variable: its bit where a path decides it, else 0 or 1
abbrev pub input_set : List Assign3 → ℕ → List Pair
input_set path var = same_pairs (decided_value path var)

-- the sets of the inputs in frame f
abbrev pub frame_inputs : SearchWindow → List Assign3 → ℕ → List (List Pair)
frame_inputs w path f = map (input_set path) (range_with_len (first_input w f) w.circuit.inputs)

-- the set of latch j in the first frame, by the start
abbrev pub first_latch : SearchWindow → Start → List Assign3 → ℕ → List Pair
first_latch w (one_frame z) path j = latch_pairs (is_in z j) (decided_value path (w.circuit.inputs + j))
    (decided_value path (first_gate_net w.circuit + j))
first_latch w unknown path j = pair Unk Unk ∷ []
first_latch w (state_pair good faulty) path j = pair (get_or good j Unk) (get_or faulty j Unk) ∷ []
first_latch w (back cube limit) path j =
    map (λ v. pair v v) (latch_values_left (decided_value path (w.circuit.inputs + j)))

-- the sets of the latches in the first frame
abbrev pub first_latches : SearchWindow → List Assign3 → List (List Pair)
first_latches w path = map (first_latch w w.start path) (range_with_len 0 (length w.circuit.dffs))

-- the sets of the latches in frame f: those of the start, and then what the data pins had in the frame before
unfoldable pub latches_at : SearchWindow → List Assign3 → ℕ → List (List Pair)
latches_at w path zero = first_latches w path
latches_at w path (suc f) =
    next_state w.circuit (pair_set_rules w.fault) (frame_inputs w path f) (latches_at w path f)

-- the cell of net x in frame f: the pairs that it may carry under the decisions of a path
abbrev pub cell_at : SearchWindow → List Assign3 → ℕ → ℕ → List Pair
cell_at w path f = net_value w.circuit (pair_set_rules w.fault) (frame_inputs w path f) (latches_at w path f)

-- a set is undetermined: it has two or more pairs
abbrev pub is_undetermined : List Pair → Bool
is_undetermined set = nat_lt 1 (length set)
