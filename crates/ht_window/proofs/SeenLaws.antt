-- The first of some places that shows what is looked for, and lists that grow by one.
use Rattle.std.proofs.Common.{◌≡◌, ◌<◌, ◌+◌, ◌-◌, ◌∙◌, ℕ, suc, zero, List, [], ◌∷◌, ◌++◌, map, Bool, true, false, ◌&&◌, ◌||◌, cond, Some, None, Option, not, length, get_or, refl, ap, sym, arith, append_assoc}
use Rattle.std.specs.Prelude.{is_some, flat_map}
use Rattle.std.specs.Bool.{then_some}
use Rattle.std.specs.Option.{option_or}
use Rattle.std.specs.List.{find, filter, list_any, range_with_len}
use Rattle.std.proofs.lemmas.List.Elements.{filter-append}
use Rattle.std.proofs.lemmas.List.Folds.{find-append}
use Rattle.ht_pairs.specs.Pairs.{Pair, pair}
use Rattle.ht_tern.specs.declared.tern.Tern.TheVariants.{Unk}
use Rattle.ht_net.specs.declared.net.NetId.{NetId}
use Rattle.ht_net.specs.Circuit.Netlist.{Netlist, no_net}
use Rattle.ht_net.specs.Frames.Frame.{next_state}
use Rattle.ht_net.proofs.ValueLaws.{taken_get}
use Rattle.ht_tree.specs.declared.window.Spot.TheVariants.{Output, State}
use Rattle.ht_tree.specs.declared.token.Assign3.{Assign3}
use Rattle.ht_tree.specs.declared.window.WindowPlace.{WindowPlace}
use Rattle.ht_tree.specs.Window.Windows.{SearchWindow, latches_at, cell_at, pair_set_rules}
use Rattle.ht_tree.specs.Window.Decisions.{is_in}
use Rattle.ht_tree.specs.Window.Places.{set_at, spot_net}
use Rattle.ht_relevant.specs.Alike.{IsAlike}
use Rattle.ht_relevant.specs.Relevant.{IsRelevant, counts_state}
use Rattle.ht_relevant.proofs.AlikeLaws.{none_differs, not_all_differ}
use Rattle.ht_window.specs.Starts.{marked}
use Rattle.ht_window.proofs.StartLaws.{marked_is}
use Rattle.ht_window.specs.Seen.{shows, shows_at}
use Rattle.ht_window.specs.declared.places.Look.{Look}
use Rattle.ht_window.specs.declared.places.Look.TheVariants.{Must, May}

module _ {X : Type 0} (test : X → Bool) where
  found_here : (b : Bool) (x : X) → cond b (Some x) None ≡ then_some b x
  found_here true x = refl
  found_here false x = refl

  -- the first that passes, after one more
  pub find_push : (xs : List X) (x : X) → find test (xs ++ x ∷ []) ≡ option_or (find test xs) (then_some (test x) x)
  find_push xs x = find-append test xs (x ∷ []) ∙ ap (option_or (find test xs)) (found_here (test x) x)

  -- a first that passes is found just where any passes
  pub any_found : (xs : List X) → is_some (find test xs) ≡ list_any test xs
  any_found [] = refl
  any_found (x ∷ xs) = by (test x) (any_found xs)
    where
      by : (b : Bool) → is_some (find test xs) ≡ list_any test xs → is_some (cond b (Some x) (find test xs))
          ≡ (b || list_any test xs)
      by true h = refl
      by false h = h

  -- what is left of a row from number k on: the first of it, or what is left after it
  pub first_of_row : (place : ℕ → X) (k n : ℕ) → k < n → find test (map place (range_with_len k (n - k)))
      ≡ cond (test (place k)) (Some (place k)) (find test (map place (range_with_len (k + 1) (n - (k + 1)))))
  first_of_row place k n h =
      let more : n - k ≡ suc (n - (k + 1)) = omega (arith, h) in
      ap (λ (left : ℕ). find test (map place (range_with_len k left))) more

  -- the same of the numbers that are kept
  pub first_of_kept : (place : ℕ → X) (kept : ℕ → Bool) (k n : ℕ) → k < n
      → find test (map place (filter kept (range_with_len k (n - k))))
      ≡ cond (kept k && test (place k)) (Some (place k))
      (find test (map place (filter kept (range_with_len (k + 1) (n - (k + 1))))))
  first_of_kept place kept k n h =
      let more : n - k ≡ suc (n - (k + 1)) = omega (arith, h) in
      ap (λ (left : ℕ). find test (map place (filter kept (range_with_len k left)))) more
      ∙ by (kept k) (filter kept (range_with_len (k + 1) (n - (k + 1))))
    where
      by : (b : Bool) (rest : List ℕ) → find test (map place (cond b (k ∷ rest) rest))
          ≡ cond (b && test (place k)) (Some (place k)) (find test (map place rest))
      by true rest = refl
      by false rest = refl

  -- what is left of some lists and of a last one, from list k on
  pub first_of_lists : (lists : ℕ → List X) (last : List X) (k n : ℕ) → k < n
      → find test (flat_map lists (range_with_len k (n - k)) ++ last)
      ≡ option_or (find test (lists k)) (find test (flat_map lists (range_with_len (k + 1) (n - (k + 1))) ++ last))
  first_of_lists lists last k n h =
      let more : n - k ≡ suc (n - (k + 1)) = omega (arith, h) in
      let rest = flat_map lists (range_with_len (k + 1) (n - (k + 1))) in
      ap (λ (left : ℕ). find test (flat_map lists (range_with_len k left) ++ last)) more
      ∙ (ap (find test) (append_assoc (lists k) rest last) ∙ find-append test (lists k) (rest ++ last))

  some_or : (o rest : Option X) → is_some o ≡ true → option_or o rest ≡ o
  some_or (Some x) rest h = refl
  some_or None rest h = cc

  none_or : (o rest : Option X) → is_some o ≡ false → option_or o rest ≡ rest
  none_or None rest h = refl
  none_or (Some x) rest h = cc

  -- from list k on: it has one, or what is left is after it
  pub list_step : (lists : ℕ → List X) (last : List X) (k n : ℕ) (here : Option X) → k < n → here ≡ find test (lists k)
      → (first : Option X) → first ≡ find test (flat_map lists (range_with_len k (n - k)) ++ last)
      → (is_some here ≡ true → first ≡ here)
      × (is_some here ≡ false → first ≡ find test (flat_map lists (range_with_len (k + 1) (n - (k + 1))) ++ last))
  list_step lists last k n here inside is first before =
      let rest = find test (flat_map lists (range_with_len (k + 1) (n - (k + 1))) ++ last) in
      let step : first ≡ option_or here rest =
      before ∙ (first_of_lists lists last k n inside ∙ ap (λ (o : Option X). option_or o rest) (sym is)) in
      (λ some. step ∙ some_or here rest some, λ none. step ∙ none_or here rest none)

-- a range of one more number ends with it
pub range_push : (a n : ℕ) → range_with_len a (n + 1) ≡ range_with_len a n ++ (a + n) ∷ []
range_push a n = let e : n + 1 ≡ suc n = omega arith in ap (range_with_len a) e ∙ by a n
  where
    by : (a n : ℕ) → range_with_len a (suc n) ≡ range_with_len a n ++ (a + n) ∷ []
    by a zero = let at : a ≡ a + 0 = omega arith in ap (λ (k : ℕ). k ∷ []) at
    by a (suc n) = let at : a + 1 + n ≡ a + suc n = omega arith
        in ap (λ (t : List ℕ). a ∷ t) (by (a + 1) n ∙ ap (λ (k : ℕ). range_with_len (a + 1) n ++ k ∷ []) at)

-- one more number that a filter keeps, or doesn't
pub filter_push : (test : ℕ → Bool) (n : ℕ) → filter test (range_with_len 0 (n + 1))
    ≡ filter test (range_with_len 0 n) ++ cond (test n) (n ∷ []) []
filter_push test n =
    let at : 0 + n ≡ n = omega arith in
    ap (filter test) (range_push 0 n) ∙ (filter-append test (range_with_len 0 n) ((0 + n) ∷ [])
    ∙ ap (λ (k : ℕ). filter test (range_with_len 0 n) ++ cond (test k) (k ∷ []) []) at)

-- the next state of a window of one frame
pub next_set : (w : SearchWindow) (path : List Assign3) (j : ℕ) → w.frames ≡ 1 → j < length w.circuit.dffs
    → get_or (latches_at w path w.frames) j (pair Unk Unk ∷ []) ≡ set_at w path 0 (State j)
unfolding latches_at next_state
next_set w path j one inside =
    let at : 0 + j ≡ j = omega arith in
    ap (λ (f : ℕ). get_or (latches_at w path f) j (pair Unk Unk ∷ [])) one
    ∙ (taken_get (pair_set_rules w.fault) (cell_at w path 0) 0 w.circuit.dffs j (pair Unk Unk ∷ []) inside ∙ ap
    (λ (k : ℕ). (pair_set_rules w.fault).data_pin k (cell_at w path 0 (get_or w.circuit.dffs j no_net).0)) at)

-- from an output of a frame on: it shows what is looked for, or what is left is after it
pub output_step : (w : SearchWindow) (path : List Assign3) (look : Look) (frame o count : ℕ) (b : Bool)
    → count ≡ length w.circuit.outputs → o < count → b ≡ shows look (set_at w path frame (Output o))
    → (first : Option WindowPlace) → first ≡ find (shows_at w path look)
    (map (λ o. record { frame = frame; spot = Output o }) (range_with_len o (length w.circuit.outputs - o)))
    → first ≡ cond b (Some (record { frame = frame; spot = Output o })) (find (shows_at w path look)
    (map (λ o. record { frame = frame; spot = Output o }) (range_with_len (o + 1) (length w.circuit.outputs - (o + 1)))))
output_step w path look frame o count b all inside is first before =
    let test = shows_at w path look in
    let place : ℕ → WindowPlace = λ o. record { frame = frame; spot = Output o } in
    before ∙ (first_of_row test place o (length w.circuit.outputs) (omega (arith, inside, all))
    ∙ ap (λ (b : Bool). cond b (Some (place o)) (find test (map place (range_with_len (o + 1)
    (length w.circuit.outputs - (o + 1)))))) (sym is))

-- from a flip-flop on: it is outside the set and shows what is looked for, or what is left is after it
pub state_step : (w : SearchWindow) (path : List Assign3) (look : Look) (z : List Bool) (j count : ℕ) (marked_here b : Bool)
    → count ≡ length w.circuit.dffs → j < count → marked_here ≡ get_or z j false
    → (not marked_here && shows look (set_at w path 0 (State j))) ≡ b
    → (first : Option WindowPlace) → first ≡ find (shows_at w path look) (map (λ j. record { frame = 0; spot = State j })
    (filter (λ j. not (is_in (marked 0 z) j)) (range_with_len j (length w.circuit.dffs - j))))
    → first ≡ cond b (Some (record { frame = 0; spot = State j })) (find (shows_at w path look)
    (map (λ j. record { frame = 0; spot = State j })
    (filter (λ j. not (is_in (marked 0 z) j)) (range_with_len (j + 1) (length w.circuit.dffs - (j + 1))))))
state_step w path look z j count marked_here b all inside mark_is is first before =
    let test = shows_at w path look in
    let place : ℕ → WindowPlace = λ j. record { frame = 0; spot = State j } in
    let kept : ℕ → Bool = λ j. not (is_in (marked 0 z) j) in
    let at : j ≡ 0 + j = omega arith in
    let here = mark_is ∙ (sym (marked_is 0 j z) ∙ ap (is_in (marked 0 z)) (sym at)) in
    before ∙ (first_of_kept test place kept j (length w.circuit.dffs) (omega (arith, inside, all))
    ∙ ap (λ (b : Bool). cond b (Some (place j)) (find test (map place (filter kept (range_with_len (j + 1)
    (length w.circuit.dffs - (j + 1)))))))
    (ap (λ (m : Bool). not m && shows look (set_at w path 0 (State j))) (sym here) ∙ is))

-- the net of an output, and of a next state
pub output_net : (w : SearchWindow) (c : Netlist) (net : NetId) (o : ℕ) → c ≡ w.circuit
    → net ≡ get_or c.outputs o no_net → net.0 ≡ spot_net w.circuit (Output o)
output_net w c net o circuit is =
    ap (λ (x : NetId). x.0) (is ∙ ap (λ (n : Netlist). get_or n.outputs o no_net) circuit)

-- the net at a flip-flop's data pin is that of its next state
pub state_net : (w : SearchWindow) (c : Netlist) (net : NetId) (j : ℕ) → c ≡ w.circuit
    → net ≡ get_or c.dffs j no_net → net.0 ≡ spot_net w.circuit (State j)
state_net w c net j circuit is =
    ap (λ (x : NetId). x.0) (is ∙ ap (λ (n : Netlist). get_or n.dffs j no_net) circuit)

-- a set in which the machines are alike shows nothing
alike_shows : (look : Look) (set : List Pair) → IsAlike set → shows look set ≡ false
alike_shows Must set h = not_all_differ set h
alike_shows May set h = none_differs set h

-- nor does a place whose net doesn't matter
pub output_quiet : (w : SearchWindow) (is : ℕ → ℕ → Bool) → IsRelevant w is → (path : List Assign3) (look : Look)
    (f o : ℕ) → f < w.frames → o < length w.circuit.outputs → is f (spot_net w.circuit (Output o)) ≡ false
    → false ≡ shows look (set_at w path f (Output o))
output_quiet w is h path look f o fs os free =
    sym (alike_shows look (set_at w path f (Output o)) (h.outputs f o fs os free path))

-- a next state that counts shows nothing where its net doesn't matter
pub state_quiet : (w : SearchWindow) (is : ℕ → ℕ → Bool) → IsRelevant w is → (path : List Assign3) (look : Look)
    (j : ℕ) → j < length w.circuit.dffs → counts_state w.start j ≡ true → is 0 (spot_net w.circuit (State j)) ≡ false
    → false ≡ shows look (set_at w path 0 (State j))
state_quiet w is h path look j js counts free =
    sym (alike_shows look (set_at w path 0 (State j)) (h.states j js counts free path))
