-- The cells of a window in one array: net x of frame f has index f * (number of nets) + x.
use Rattle.std.specs.Prelude.{◌≡◌, ◌<◌, ◌≤◌, ◌+◌, ◌-◌, ◌*◌, ◌/◌, ◌%◌, ℕ, zero, suc, List, [], ◌∷◌, ◌++◌, Bool, true, cond, ltb, length, get_or, take}
use Rattle.ht_tern.specs.declared.tern.Tern.TheVariants.{Unk}
use Rattle.ht_pairs.specs.Pairs.{Pair, pair}
use Rattle.ht_net.specs.Circuit.Netlist.{net_count, first_gate_net}
use Rattle.ht_net.specs.Frames.Frame.{net_value_over, data_values}
use Rattle.ht_trail.specs.Trails.{CellsState, at_mark}
use Rattle.ht_tree.specs.declared.token.Assign3.{Assign3}
use Rattle.ht_tree.specs.Window.Windows.{SearchWindow, cell_at, first_input, first_latches, frame_inputs, pair_set_rules}

-- the set that stands where the array has no cell
abbrev pub blank : List Pair
blank = pair Unk Unk ∷ []

-- the index of net x of frame f in the one array of a window's cells
abbrev pub cell_index : SearchWindow → ℕ → ℕ → ℕ
cell_index w f x = f * net_count w.circuit + x

-- how many cells a window has
abbrev pub cell_count : SearchWindow → ℕ
cell_count w = w.frames * net_count w.circuit

-- the set that net x of frame f holds
abbrev pub env_at : SearchWindow → List (List Pair) → ℕ → ℕ → List Pair
env_at w values f x = get_or values (cell_index w f x) blank

-- the latches of a frame, by what the frame before holds
unfoldable pub latches_over : SearchWindow → List Assign3 → List (List Pair) → ℕ → List (List Pair)
latches_over w path values zero = first_latches w path
latches_over w path values (suc f) = data_values (pair_set_rules w.fault) (env_at w values f) 0 w.circuit.dffs

-- what net x of frame f gets from the decisions and from the cells that its driver reads
abbrev pub value_over : SearchWindow → List Assign3 → List (List Pair) → ℕ → ℕ → List Pair
value_over w path values f x = net_value_over w.circuit (pair_set_rules w.fault) (frame_inputs w path f)
    (latches_over w path values f) (env_at w values f) x

-- net x of frame f holds what it gets from the decisions and from the cells that its driver reads
abbrev pub HoldsValue : SearchWindow → List Assign3 → List (List Pair) → ℕ → ℕ → Type 0
HoldsValue w path values f x = env_at w values f x ≡ value_over w path values f x

-- the cell of each of some nets is that of the decisions
pub record AreCells (w : SearchWindow) (is : ℕ → ℕ → Bool) (path : List Assign3) (values : List (List Pair)) : Type 0
  where
    pub cells : (f x : ℕ) → f < w.frames → x < net_count w.circuit → is f x ≡ true
        → env_at w values f x ≡ cell_at w path f x

-- the frame whose net a variable decides
abbrev pub var_frame : SearchWindow → ℕ → ℕ
var_frame w var = cond (ltb var (first_input w w.frames)) (var / w.circuit.inputs) 0

-- the net that a variable decides
abbrev pub var_net : SearchWindow → ℕ → ℕ
var_net w var = cond (ltb var (first_input w w.frames)) (var % w.circuit.inputs)
    (cond (ltb var (first_gate_net w.circuit)) var (var - length w.circuit.dffs))

-- the mark before decision k, or the present one
abbrev pub decision_mark : List ℕ → CellsState (List Pair) → ℕ → ℕ
decision_mark marks cells k = get_or (marks ++ length cells.trail ∷ []) k 0

-- Marks rise, and at each mark the cells of these nets were those of the decisions before it.
pub record IsHistory (w : SearchWindow) (is : ℕ → ℕ → Bool) (path : List Assign3) (marks : List ℕ)
    (cells : CellsState (List Pair)) : Type 0 where
  pub count : length marks ≡ length path
  pub rising : (j k : ℕ) → j < k → k ≤ length marks → decision_mark marks cells j < decision_mark marks cells k
  pub at : (k : ℕ) → k ≤ length path → AreCells w is (take k path) (at_mark cells (decision_mark marks cells k))
