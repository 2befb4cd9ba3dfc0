-- What the places of a window show, output by output and flip-flop by flip-flop.
use Rattle.std.proofs.Common.{◌≡◌, ◌<◌, ◌+◌, ℕ, suc, List, [], ◌∷◌, ◌++◌, map, Bool, true, false, not, ◌||◌, cond, Option, Some, None, length, get_or, refl, sym, ◌∙◌, ap, arith}
use Rattle.std.specs.List.{find, filter, list_any, list_all, range_with_len}
use Rattle.std.proofs.lemmas.List.{map-append}
use Rattle.std.proofs.lemmas.Simd.{map-map}
use Rattle.std.specs.Prelude.{flat_map}
use Rattle.ht_pairs.specs.Pairs.{Pair, differs}
use Rattle.ht_net.specs.declared.net.NetId.{NetId}
use Rattle.ht_net.specs.Circuit.Netlist.{no_net}
use Rattle.ht_net.specs.Frames.Frame.{Rules, values_at, data_values}
use Rattle.ht_tree.specs.declared.token.Assign3.{Assign3}
use Rattle.ht_tree.specs.declared.window.Spot.TheVariants.{Output, State}
use Rattle.ht_tree.specs.declared.window.WindowPlace.{WindowPlace}
use Rattle.ht_tree.specs.Window.Decisions.{is_in}
use Rattle.ht_tree.specs.Window.Windows.{Start, one_frame, SearchWindow, pair_set_rules, cell_at}
use Rattle.ht_tree.specs.Window.Places.{set_at, output_places, state_places, places_of, must_differ_at, may_differ_at}
use Rattle.ht_tree.specs.Window.WindowStatus.{sure_or, difference_status, without_place}
use Rattle.ht_recompute.specs.declared.window_start.WindowStart.{WindowStart}
use Rattle.ht_recompute.specs.declared.window_start.WindowStart.TheVariants.{OneFrame, Unknown, States, Back}
use Rattle.ht_recompute.specs.WindowStarts.{IsStartOf, window_start, state_sets}
use Rattle.ht_recompute.specs.Differences.{differences_in, status_by, outside_marks}

first_sure : (b : Bool) (p : WindowPlace) (more : Option WindowPlace) (rest some : Bool)
    → without_place (sure_or more some) ≡ status_by (record { must = rest; may = some })
    → without_place (sure_or (cond b (Some p) more) some) ≡ status_by (record { must = b || rest; may = some })
first_sure true p more rest some h = refl
first_sure false p more rest some h = h

none_sure : (some : Bool) → without_place (sure_or None some) ≡ status_by (record { must = false; may = some })
none_sure true = refl
none_sure false = refl

find_any : (test : WindowPlace → Bool) (ps : List WindowPlace) (some : Bool)
    → without_place (sure_or (find test ps) some) ≡ status_by (record { must = list_any test ps; may = some })
find_any test [] some = none_sure some
find_any test (p ∷ ps) some =
    first_sure (test p) p (find test ps) (list_any test ps) some (find_any test ps some)

-- some item passes the test of what it is mapped to exactly where some item of the mapped list passes
pub any_map : {X Y : Type 0} → (test : Y → Bool) (f : X → Y) (xs : List X)
    → list_any (λ x. test (f x)) xs ≡ list_any test (map f xs)
any_map test f [] = refl
any_map test f (x ∷ xs) = ap (λ (b : Bool). test (f x) || b) (any_map test f xs)

-- the sets at the outputs, by number
outputs_by : (env f : ℕ → List Pair) (i : ℕ) (xs : List NetId)
    → ((k : ℕ) → k < length xs → f (i + k) ≡ env (get_or xs k no_net).0)
    → map f (range_with_len i (length xs)) ≡ values_at env xs
outputs_by env f i [] h = refl
outputs_by env f i (x ∷ xs) h =
    let at : i + 0 ≡ i = omega arith in
    let here = ap f (sym at) ∙ h 0 (omega arith) in
    let rest = outputs_by env f (i + 1) xs (λ k l. let at : i + 1 + k ≡ i + suc k = omega arith in
    ap f at ∙ h (suc k) (omega (arith, l))) in
    (λ k. here k ∷ rest k)

-- the next states of the flip-flops that are not marked, by number
unmarked : (f : ℕ → List Pair) (b : Bool) (j : ℕ) (js : List ℕ) (s : List Pair) (marks : List Bool)
    (sets : List (List Pair))
    → f j ≡ s → map f js ≡ outside_marks marks sets
    → map f (cond (not b) (j ∷ js) js) ≡ outside_marks (b ∷ marks) (s ∷ sets)
unmarked f true j js s marks sets h k = k
unmarked f false j js s marks sets h k = (λ i. h i ∷ k i)

states_by : (r : Rules (List Pair)) (env f : ℕ → List Pair) (z : List ℕ) (i : ℕ) (marks : List Bool) (xs : List NetId)
    → length marks ≡ length xs → ((k : ℕ) → k < length xs → get_or marks k false ≡ is_in z (i + k))
    → ((k : ℕ) → k < length xs → f (i + k) ≡ r.data_pin (i + k) (env (get_or xs k no_net).0))
    → map f (filter (λ j. not (is_in z j)) (range_with_len i (length xs)))
    ≡ outside_marks marks (data_values r env i xs)
states_by r env f z i [] [] e m h = refl
states_by r env f z i [] (x ∷ xs) e m h = absurd (omega arith)
states_by r env f z i (mark ∷ marks) [] e m h = absurd (omega arith)
states_by r env f z i (mark ∷ marks) (x ∷ xs) e m h =
    let at : i + 0 ≡ i = omega arith in
    let here : f i ≡ r.data_pin i (env x.0) =
    ap f (sym at) ∙ (h 0 (omega arith) ∙ ap (λ (n : ℕ). r.data_pin n (env x.0)) at) in
    let marked : mark ≡ is_in z i = m 0 (omega arith) ∙ ap (is_in z) at in
    let rest = states_by r env f z (i + 1) marks xs (omega arith)
    (λ k l. let at : i + suc k ≡ i + 1 + k = omega arith in m (suc k) (omega (arith, l)) ∙ ap (is_in z) at)
    (λ k l. let at : i + 1 + k ≡ i + suc k = omega arith in
    ap f at ∙ (h (suc k) (omega (arith, l)) ∙ ap (λ (n : ℕ). r.data_pin n (env (get_or xs k no_net).0)) (sym at))) in
    let js = filter (λ j. not (is_in z j)) (range_with_len (i + 1) (length xs)) in
    ap (λ (b : Bool). map f (cond (not b) (i ∷ js) js)) (sym marked)
    ∙ unmarked f mark i js (r.data_pin i (env x.0)) marks (data_values r env (i + 1) xs) here rest

map_flat : {X Y : Type 0} → (g : WindowPlace → Y) (f : X → List WindowPlace) (h : X → List Y) (xs : List X)
    → ((x : X) → map g (f x) ≡ h x) → map g (flat_map f xs) ≡ flat_map h xs
map_flat g f h [] e = refl
map_flat g f h (x ∷ xs) e = map-append g (f x) (flat_map f xs) ∙ (λ i. e x i ++ map_flat g f h xs e i)

module _ (w : SearchWindow) (path : List Assign3) where
  abbrev set_of_place : WindowPlace → List Pair
  set_of_place p = set_at w path p.frame p.spot

  -- the sets at the outputs of frame f
  abbrev pub shown_in : ℕ → List (List Pair)
  shown_in f = values_at (cell_at w path f) w.circuit.outputs

  output_sets : (f : ℕ) → map set_of_place (output_places w.circuit f) ≡ shown_in f
  output_sets f =
      map-map set_of_place (λ o. record { frame = f; spot = Output o }) (range_with_len 0 (length w.circuit.outputs))
      ∙ outputs_by (cell_at w path f) (λ o. set_at w path f (Output o)) 0 w.circuit.outputs
      (λ k l. let at : 0 + k ≡ k = omega arith in ap (λ (n : ℕ). set_at w path f (Output n)) at)

  marked_sets : (z : List ℕ) (marks : List Bool) → length marks ≡ length w.circuit.dffs
      → ((j : ℕ) → get_or marks j false ≡ is_in z j)
      → map set_of_place (state_places w.circuit (one_frame z))
      ≡ outside_marks marks (data_values (pair_set_rules w.fault) (cell_at w path 0) 0 w.circuit.dffs)
  marked_sets z marks count marked =
      let r = pair_set_rules w.fault in
      map-map set_of_place (λ j. record { frame = 0; spot = State j })
      (filter (λ j. not (is_in z j)) (range_with_len 0 (length w.circuit.dffs)))
      ∙ states_by r (cell_at w path 0) (λ j. set_at w path 0 (State j)) z 0 marks w.circuit.dffs count
      (λ k l. let at : k ≡ 0 + k = omega arith in marked k ∙ ap (is_in z) at)
      (λ k l. let at : 0 + k ≡ k = omega arith in
      ap (λ (n : ℕ). set_at w path 0 (State n)) at
      ∙ ap (λ (n : ℕ). r.data_pin n (cell_at w path 0 (get_or w.circuit.dffs k no_net).0)) (sym at))

  -- the sets of the next states that are places
  state_sets_are : (start : WindowStart) → IsStartOf start (length w.circuit.dffs)
      → map set_of_place (state_places w.circuit (window_start start))
      ≡ state_sets start (data_values (pair_set_rules w.fault) (cell_at w path 0) 0 w.circuit.dffs)
  state_sets_are (OneFrame z marks) h = marked_sets z.now marks.items h.0 h.1
  state_sets_are Unknown h = refl
  state_sets_are (States good faulty) h = refl
  state_sets_are (Back cube limit) h = refl

  -- the status by what the outputs of the frames show, and the next states
  pub status_shown : (start : WindowStart) → w.start ≡ window_start start → IsStartOf start (length w.circuit.dffs)
      → status_by (differences_in (flat_map shown_in (range_with_len 0 w.frames)
      ++ state_sets start (data_values (pair_set_rules w.fault) (cell_at w path 0) 0 w.circuit.dffs)))
      ≡ without_place (difference_status w path)
  status_shown start is h =
      let ps = places_of w in
      let outs = flat_map (output_places w.circuit) (range_with_len 0 w.frames) in
      let sets = map-append set_of_place outs (state_places w.circuit w.start)
      ∙ (λ k. map_flat set_of_place (output_places w.circuit) shown_in (range_with_len 0 w.frames) output_sets k
      ++ (ap (λ (s : Start). map set_of_place (state_places w.circuit s)) is ∙ state_sets_are start h) k) in
      let must = any_map (list_all differs) set_of_place ps ∙ ap (list_any (list_all differs)) sets in
      let may = any_map (list_any differs) set_of_place ps ∙ ap (list_any (list_any differs)) sets in
      sym (find_any (must_differ_at w path) ps (list_any (may_differ_at w path) ps)
      ∙ (λ k. status_by (record { must = must k; may = may k })))
