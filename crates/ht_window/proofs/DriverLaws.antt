-- What an input, a latch and a gate get from the decisions and from a row of the cells.
use Rattle.std.proofs.Common.{◌≡◌, ◌<◌, ◌≤◌, ◌+◌, ◌-◌, ℕ, suc, List, Option, length, get_or, take, drop, refl, sym, ◌∙◌, ap, arith}
use Rattle.std.proofs.lemmas.List.{get_or-take, get_or-drop}
use Rattle.std.proofs.lemmas.List.FromFn.{get_or-map-range_with_len}
use Rattle.ht_pairs.specs.Pairs.{Pair}
use Rattle.ht_net.specs.declared.fault.Fault.{Fault}
use Rattle.ht_net.specs.declared.net.NetId.{NetId}
use Rattle.ht_net.specs.Circuit.Netlist.{net_count, first_gate_net, no_net}
use Rattle.ht_net.specs.Circuit.Netlist.{arg_at}
use Rattle.ht_net.specs.Frames.Frame.{driver_value, gate_output}
use Rattle.ht_net.proofs.FrameLaws.{driven_input, driven_latch, driven_gate, gate_same}
use Rattle.ht_net.proofs.ValueLaws.{taken_get}
use Rattle.ht_frame.specs.Values.{env_of}
use Rattle.ht_tree.specs.declared.token.Assign3.{Assign3}
use Rattle.ht_pairs.specs.Decided.{same_pairs}
use Rattle.ht_tree.specs.Window.Decisions.{decided_value}
use Rattle.ht_tree.specs.Window.Windows.{input_set, SearchWindow, IsWindow, first_input, first_latch, frame_inputs, pair_set_rules}
use Rattle.ht_window.specs.Cells.{cell_index, env_at, blank, latches_over}

-- a latch of the first frame, and of a later one
pub latch_first : (w : SearchWindow) (path : List Assign3) (values : List (List Pair)) (f j : ℕ) → f ≡ 0
    → j < length w.circuit.dffs
    → first_latch w w.start path j ≡ get_or (latches_over w path values f) j blank
unfolding latches_over
latch_first w path values f j at js =
    let e : 0 + j ≡ j = omega arith in
    sym (ap (λ (g : ℕ). get_or (latches_over w path values g) j blank) at ∙
    get_or-map-range_with_len (first_latch w w.start path) 0 (length w.circuit.dffs) j j blank js e)

-- what a flip-flop takes at its data pin in one frame is what its latch has in the next
pub latch_next : (w : SearchWindow) (path : List Assign3) (values : List (List Pair)) (f g j : ℕ) → f ≡ suc g
    → j < length w.circuit.dffs
    → (result cell : List Pair) (fault : Option Fault) (net : NetId)
    → result ≡ (pair_set_rules fault).data_pin j cell → fault ≡ w.fault → net ≡ get_or w.circuit.dffs j no_net → cell
    ≡ env_at w values g net.0
    → result ≡ get_or (latches_over w path values f) j blank
unfolding latches_over
latch_next w path values f g j at js result cell fault net r fs ns cs =
    let e : 0 + j ≡ j = omega arith in
    r ∙ ((λ i. (pair_set_rules (fs i)).data_pin j ((cs ∙ ap (λ (n : NetId). env_at w values g n.0) ns) i))
    ∙ sym (ap (λ (h : ℕ). get_or (latches_over w path values h) j blank) at
    ∙ (taken_get (pair_set_rules w.fault) (env_at w values g) 0 w.circuit.dffs j blank js
    ∙ ap (λ (k : ℕ). (pair_set_rules w.fault).data_pin k (env_at w values g (get_or w.circuit.dffs j no_net).0)) e)))

-- what the decisions give an input, and a latch
pub driver_input : (w : SearchWindow) (path : List Assign3) (values : List (List Pair)) (f x : ℕ) (result : List Pair)
    → x < w.circuit.inputs → result ≡ same_pairs (decided_value path (first_input w f + x))
    → result ≡ driver_value w.circuit (pair_set_rules w.fault) (frame_inputs w path f) (latches_over w path values f)
    (env_at w values f) x
driver_input w path values f x result xs is =
    is ∙ (sym (get_or-map-range_with_len (input_set path) (first_input w f) w.circuit.inputs x
    (first_input w f + x) blank xs refl)
    ∙ sym (driven_input w.circuit (pair_set_rules w.fault) (frame_inputs w path f) (latches_over w path values f)
    (env_at w values f) x xs))

-- what the latches of a frame have for a latch is what drives its net
pub driver_latch : (w : SearchWindow) (path : List Assign3) (values : List (List Pair)) (f x : ℕ) (result : List Pair)
    → w.circuit.inputs ≤ x → x < first_gate_net w.circuit → result ≡ get_or (latches_over w path values f)
    (x - w.circuit.inputs) blank
    → result ≡ driver_value w.circuit (pair_set_rules w.fault) (frame_inputs w path f) (latches_over w path values f)
    (env_at w values f) x
driver_latch w path values f x result at low is =
    is ∙ sym (driven_latch w.circuit (pair_set_rules w.fault) (frame_inputs w path f) (latches_over w path values f)
    (env_at w values f) x at low)

-- the output of a gate over a row with the cells of its frame is what drives its net
pub driver_gate : (w : SearchWindow) → IsWindow w → (path : List Assign3) (values row : List (List Pair)) (f x : ℕ)
    (result : List Pair) → first_gate_net w.circuit ≤ x → x < net_count w.circuit
    → ((y : ℕ) → y < net_count w.circuit → get_or row y blank ≡ env_at w values f y)
    → result ≡ gate_output w.circuit (pair_set_rules w.fault) (env_of blank row) (x - first_gate_net w.circuit)
    → result ≡ driver_value w.circuit (pair_set_rules w.fault) (frame_inputs w path f) (latches_over w path values f)
    (env_at w values f) x
driver_gate w valid path values row f x result at xs same is =
    let r = pair_set_rules w.fault in
    is ∙ (gate_same w.circuit r (env_of blank row) (env_at w values f) (x - first_gate_net w.circuit)
    (λ j l. same (arg_at w.circuit (x - first_gate_net w.circuit) j)
    (valid.circuit.known (x - first_gate_net w.circuit) j (omega (arith, at, xs)) l))
    ∙ sym (driven_gate w.circuit r (frame_inputs w path f) (latches_over w path values f) (env_at w values f) x at))

-- a row of the cells
pub row_cells : (w : SearchWindow) (values : List (List Pair)) (f y : ℕ) → y < net_count w.circuit
    → get_or (take (net_count w.circuit) (drop (cell_index w f 0) values)) y blank ≡ env_at w values f y
row_cells w values f y ys =
    let at : cell_index w f 0 + y ≡ cell_index w f y = omega arith in
    get_or-take (net_count w.circuit) (drop (cell_index w f 0) values) y blank ys ∙
    (get_or-drop (cell_index w f 0) values y blank ∙ ap (λ (p : ℕ). get_or values p blank) at)
