-- The trace of a run, frame by frame, and what its rows show at the outputs.
use Rattle.std.proofs.Common.{◌≡◌, ◌<◌, ◌≤◌, ◌+◌, ℕ, List, [], ◌∷◌, ◌++◌, ◌⊎◌, inl, inr, Bool, Option, length, get_or, take, map, refl, sym, ◌∙◌, ap, arith, length-append}
use Rattle.std.proofs.lemmas.Bool.{cases_lt}
use Rattle.std.proofs.lemmas.List.{ext_get_or, get_or-map, get_or_append_left, length-map, map-append, take-map, take_more}
use Rattle.std.proofs.Math.Seq.{get_or-append_seam}
use Rattle.ht_tern.specs.declared.tern.Tern.{Tern}
use Rattle.ht_tern.specs.declared.tern.Tern.TheVariants.{Unk}
use Rattle.ht_net.specs.declared.fault.Fault.{Fault}
use Rattle.ht_net.specs.Circuit.Netlist.{Netlist, IsCircuit, net_count, no_net}
use Rattle.ht_net.specs.Frames.Frame.{data_values, frame_outputs, net_value, next_state, run_state, values_at}
use Rattle.ht_net.specs.Frames.Faults.{tern_rules}
use Rattle.ht_net.specs.Detect.Detection.{outputs_from, state_from, terns_of}
use Rattle.ht_net.proofs.ValueLaws.{seen_same, taken_same}
use Rattle.ht_frame.specs.Values.{env_of}
use Rattle.ht_serial.proofs.RowLaws.{rows_count}
use Rattle.ht_serial.proofs.RunLaws.{run_output_at, run_state_more}
use Rattle.ht_dictionary.specs.Traces.{AreFrames, IsFrame, IsTrace, outputs_in}

-- ---- one frame more

-- flip-flops that take the values at their data pins, where the nets have those of a frame, take the next state
pub next_is : (c : Netlist) (fault : Option Fault) (vector latches values : List Tern) → IsCircuit c
    → ((x : ℕ) → x < net_count c → env_of Unk values x ≡ net_value c (tern_rules fault) vector latches x)
    → data_values (tern_rules fault) (env_of Unk values) 0 c.dffs ≡ next_state c (tern_rules fault) vector latches
unfolding next_state
next_is c fault vector latches values circuit settled =
    let r = tern_rules fault in
    taken_same r (env_of Unk values) (net_value c r vector latches) 0 c.dffs
    (λ j inside. settled (get_or c.dffs j no_net).0 (circuit.data_known j inside))

-- the state that one vector more leaves is the next after that of the vectors before it
pub state_more : (c : Netlist) (fault : Option Fault) (start : List Tern) (list : List (List Bool)) (t : ℕ)
    → t < length list
    → state_from c fault start (take (t + 1) list)
    ≡ next_state c (tern_rules fault) (terns_of (get_or list t [])) (state_from c fault start (take t list))
state_more c fault start list t inside =
    let r = tern_rules fault in
    ap (λ (l : List (List Bool)). run_state c r start (map terns_of l)) (take_more list t [] inside)
    ∙ ap (run_state c r start) (map-append terns_of (take t list) (get_or list t [] ∷ []))
    ∙ run_state_more c r start (map terns_of (take t list)) (terns_of (get_or list t []))

-- rows with one more are those of one frame more
pub frames_more : (c : Netlist) (fault : Option Fault) (start : List Tern) (list : List (List Bool)) (n : ℕ)
    (rows : List (List Tern)) (row : List Tern) → AreFrames c fault start list n rows
    → IsFrame c fault start list n row → AreFrames c fault start list (n + 1) (rows ++ row ∷ [])
frames_more c fault start list n rows row has one = record {
  count = length-append rows (row ∷ []) ∙ ap (λ (k : ℕ). k + 1) has.count;
  frames = λ t below. go t below (cases_lt t n);
}
  where
    go : (t : ℕ) → t < n + 1 → (t < n) ⊎ (n ≤ t) → IsFrame c fault start list t (get_or (rows ++ row ∷ []) t [])
    go t below (inl earlier) =
        let is : get_or (rows ++ row ∷ []) t [] ≡ get_or rows t [] =
        get_or_append_left rows (row ∷ []) [] t (omega (arith, earlier, has.count)) in
        rw is (has.frames t earlier)
    go t below (inr late) =
        let at : t ≡ length rows = omega (arith, below, late, has.count) in
        let last : t ≡ n = omega (arith, below, late) in
        let is : get_or (rows ++ row ∷ []) t [] ≡ row =
        ap (λ (k : ℕ). get_or (rows ++ row ∷ []) k []) at ∙ get_or-append_seam rows row [] [] in
        rw is (rw last one)

-- ---- what a trace shows

frame_shows : (c : Netlist) (fault : Option Fault) (vector latches row : List Tern) → IsCircuit c
    → ((x : ℕ) → x < net_count c → get_or row x Unk ≡ net_value c (tern_rules fault) vector latches x)
    → values_at (env_of Unk row) c.outputs ≡ frame_outputs c (tern_rules fault) vector latches
unfolding frame_outputs
frame_shows c fault vector latches row circuit has =
    seen_same (env_of Unk row) (net_value c (tern_rules fault) vector latches) c.outputs
    (λ o inside. has (get_or c.outputs o no_net).0 (circuit.outputs_known o inside))

-- the values of a trace at the outputs are what the machine shows
pub trace_shows : (c : Netlist) (fault : Option Fault) (start : List Tern) (list : List (List Bool))
    (rows : List (List Tern)) → IsCircuit c → IsTrace c fault start list rows
    → outputs_in c rows ≡ outputs_from c fault start list
trace_shows c fault start list rows circuit trace =
    ext_get_or [] (outputs_in c rows) (outputs_from c fault start list)
    (count ∙ sym (rows_count c fault start list)) (λ t inside. at t (omega (arith, inside, count)))
  where
    count : length (outputs_in c rows) ≡ length list
    count = length-map rows _ ∙ trace.count

    at : (t : ℕ) → t < length list → get_or (outputs_in c rows) t [] ≡ get_or (outputs_from c fault start list) t []
    at t inside =
        let r = tern_rules fault in
        let vectors = map terns_of list in
        get_or-map _ rows t [] [] (omega (arith, inside, trace.count))
        ∙ frame_shows c fault (terns_of (get_or list t [])) (state_from c fault start (take t list)) (get_or rows t [])
        circuit (trace.frames t inside).values
        ∙ sym (run_output_at c r start vectors t [] (omega (arith, inside, length-map list terns_of))
        ∙ ap (λ (v : List Tern). frame_outputs c r v (run_state c r start (take t vectors)))
        (get_or-map terns_of list t [] [] inside)
        ∙ ap (λ (l : List (List Tern)). frame_outputs c r (terns_of (get_or list t [])) (run_state c r start l))
        (take-map terns_of t list))

-- there is one trace
pub one_trace : (c : Netlist) (fault : Option Fault) (start : List Tern) (list : List (List Bool))
    (a b : List (List Tern)) → IsTrace c fault start list a → IsTrace c fault start list b → a ≡ b
one_trace c fault start list a b is_a is_b =
    ext_get_or [] a b (is_a.count ∙ sym is_b.count) (λ t inside. row t (omega (arith, inside, is_a.count)))
  where
    row : (t : ℕ) → t < length list → get_or a t [] ≡ get_or b t []
    row t inside =
        let first = is_a.frames t inside in
        let second = is_b.frames t inside in
        ext_get_or Unk (get_or a t []) (get_or b t []) (first.width ∙ sym second.width)
        (λ x below. let known : x < net_count c = omega (arith, below, first.width) in
        first.values x known ∙ sym (second.values x known))
