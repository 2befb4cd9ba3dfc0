-- A family that closes holds every run of the two machines.
use Rattle.std.proofs.Common.{◌≡◌, ◌<◌, ◌≤◌, ℕ, suc, zero, List, [], ◌∷◌, map, replicate, Bool, true, false, Some, None, length, get_or, refl, sym, ◌∙◌, inl, inr, arith, subst}
use Rattle.ht_tern.specs.declared.tern.Tern.{Tern}
use Rattle.ht_tern.specs.declared.tern.Tern.TheVariants.{Zero, One, Unk}
use Rattle.ht_tern.specs.Gate.{AllRelated}
use Rattle.ht_tern.specs.Opposite.{Opposite}
use Rattle.ht_pairs.specs.Pairs.{Pair, pair, IsMember, MayDiffer}
use Rattle.ht_pairs.specs.Decided.{same_pairs}
use Rattle.ht_net.specs.declared.fault.Fault.{Fault}
use Rattle.ht_net.specs.Circuit.Netlist.{Netlist}
use Rattle.ht_net.specs.Frames.Frame.{frame_outputs, net_value, next_state, run_outputs, run_state}
use Rattle.ht_net.specs.Frames.Faults.{tern_rules}
use Rattle.ht_net.proofs.FrameLaws.{le_or_lt}
use Rattle.ht_net.proofs.RelationLaws.{next_related, outputs_related}
use Rattle.ht_net.proofs.ValueLaws.{seen_length, taken_length}
use Rattle.ht_net.specs.Detect.Detection.{Detects, DetectsFrom, IsStart, state_from, terns_of, unknown_state}
use Rattle.ht_net.proofs.MoreToldLaws.{detects_where_refined, start_refines_unknown}
use Rattle.ht_tree.specs.Record.Reached.{AreVectors}
use Rattle.ht_tree.specs.Window.Windows.{pair_set_rules}
use Rattle.ht_tree.proofs.PairLaws.{Has, bits, pair_rules, paired, sets_keep}
use Rattle.ht_records.proofs.PairRunLaws.{FaultyIs, GoodIs, faulty_half, good_half, paired_half}
use Rattle.ht_records.proofs.WidthLaws.{fit_list, fit_vectors, shows_fitted}
use Rattle.ht_net.specs.Detect.Undetectable.{IsUndetectable}
use Rattle.ht_tree.specs.Record.ClosedFamilies.{Closes, Family, HoldsState, IncludesEach, any_vector, shown_sets, taken_sets}

-- in a frame of every vector, there is a set for each flip-flop to take
pub taken_long : (c : Netlist) (fault : Fault) (family : Family)
    → length (taken_sets c fault family) ≡ length c.dffs
unfolding next_state
taken_long c fault family =
    let r = pair_set_rules (Some fault) in taken_length r (net_value c r (any_vector c) family) 0 c.dffs

-- in a frame of every vector, there is a set for each output to show
pub shown_long : (c : Netlist) (fault : Fault) (family : Family)
    → length (shown_sets c fault family) ≡ length c.outputs
unfolding frame_outputs
shown_long c fault family =
    let r = pair_set_rules (Some fault) in seen_length (net_value c r (any_vector c) family) c.outputs

-- what is held by sets is held by sets that include them
widen : (sets others : List (List Pair)) (pairs : List Pair) → length others ≡ length sets → IncludesEach others sets
    → AllRelated Has sets pairs → AllRelated Has others pairs
widen [] [] pairs e all h = h
widen [] (s ∷ others) pairs e all h = absurd (omega arith)
widen (s ∷ sets) [] pairs e all h = absurd (omega arith)
widen (s ∷ sets) (o ∷ others) [] e all h = absurd h
widen (s ∷ sets) (o ∷ others) (p ∷ pairs) e all h =
    (all 0 (omega arith) p h.0, widen sets others pairs (omega arith) (λ j l. all (suc j) (omega arith)) h.1)

-- a start, as pairs
abbrev both : List Tern → List Pair
both start = map (λ v. pair v v) start

start_held : (family : Family) (start : List Tern) → length family ≡ length start → HoldsState family start
    → AllRelated Has family (both start)
start_held [] [] e all = tt
start_held [] (v ∷ start) e all = absurd (omega arith)
start_held (s ∷ family) [] e all = absurd (omega arith)
start_held (s ∷ family) (v ∷ start) e all =
    (all 0 (omega arith), start_held family start (omega arith) (λ j l. all (suc j) (omega arith)))

start_good : (start : List Tern) → AllRelated GoodIs (both start) start
start_good [] = tt
start_good (v ∷ start) = (refl, start_good start)

start_faulty : (start : List Tern) → AllRelated FaultyIs (both start) start
start_faulty [] = tt
start_faulty (v ∷ start) = (refl, start_faulty start)

bit_held : (b : Bool) → Has (same_pairs None) (bits b b)
bit_held false = inl refl
bit_held true = inr (inl refl)

vector_held : (n : ℕ) (v : List Bool) → length v ≡ n → AllRelated Has (replicate n (same_pairs None)) (paired v v)
vector_held zero [] e = tt
vector_held zero (b ∷ v) e = absurd (omega arith)
vector_held (suc n) [] e = absurd (omega arith)
vector_held (suc n) (b ∷ v) e = (bit_held b, vector_held n v (omega arith))

opposite_member : (good faulty : Tern) (set : List Pair) → IsMember (pair good faulty) set → Opposite good faulty
    → MayDiffer set
opposite_member Zero One set h o = inl h
opposite_member One Zero set h o = inr h
opposite_member Zero Zero set h o = absurd o
opposite_member Zero Unk set h o = absurd o
opposite_member One One set h o = absurd o
opposite_member One Unk set h o = absurd o
opposite_member Unk Zero set h o = absurd o
opposite_member Unk One set h o = absurd o
opposite_member Unk Unk set h o = absurd o

-- The pairs of the latches of both machines are in the sets of a family.
record IsHeld (family : Family) (good faulty : List Tern) : Type 0 where
  pairs : List Pair
  held : AllRelated Has family pairs
  is_good : AllRelated GoodIs pairs good
  is_faulty : AllRelated FaultyIs pairs faulty

-- where the pairs of two states lie in the sets of a family, the pair at each index lies in the set there
pub held_pair : (family : Family) (pairs : List Pair) (good faulty : List Tern) (j : ℕ)
    → AllRelated Has family pairs → AllRelated GoodIs pairs good → AllRelated FaultyIs pairs faulty
    → j < length family → IsMember (pair (get_or good j Unk) (get_or faulty j Unk)) (get_or family j [])
held_pair [] pairs good faulty j h g f l = absurd (omega arith)
held_pair (s ∷ family) [] good faulty j h g f l = absurd h
held_pair (s ∷ family) (p ∷ pairs) [] faulty j h g f l = absurd g
held_pair (s ∷ family) (p ∷ pairs) (v ∷ good) [] j h g f l = absurd f
held_pair (s ∷ family) (p ∷ pairs) (v ∷ good) (w ∷ faulty) zero h g f l =
    subst (λ (q : Pair). IsMember q s) (λ i. pair (g.0 i) (f.0 i)) h.0
held_pair (s ∷ family) (p ∷ pairs) (v ∷ good) (w ∷ faulty) (suc j) h g f l =
    held_pair family pairs good faulty j h.1 g.1 f.1 (omega arith)

-- past the last output both machines show nothing
past_silent : (sets : List (List Pair)) (pairs : List Pair) (good faulty : List Tern) (o : ℕ)
    → AllRelated Has sets pairs → AllRelated GoodIs pairs good → AllRelated FaultyIs pairs faulty → length sets ≤ o
    → ¬ Opposite (get_or good o Unk) (get_or faulty o Unk)
past_silent [] [] [] faulty o h g f past d = absurd d
past_silent [] [] (v ∷ good) faulty o h g f past d = absurd g
past_silent [] (p ∷ pairs) good faulty o h g f past d = absurd h
past_silent (s ∷ sets) [] good faulty o h g f past d = absurd h
past_silent (s ∷ sets) (p ∷ pairs) [] faulty o h g f past d = absurd g
past_silent (s ∷ sets) (p ∷ pairs) (v ∷ good) [] o h g f past d = absurd f
past_silent (s ∷ sets) (p ∷ pairs) (v ∷ good) (w ∷ faulty) zero h g f past d = absurd (omega arith)
past_silent (s ∷ sets) (p ∷ pairs) (v ∷ good) (w ∷ faulty) (suc o) h g f past d =
    past_silent sets pairs good faulty o h.1 g.1 f.1 (omega arith) d

module _ (c : Netlist) (fault : Fault) (start : List Tern) (family : Family)
    (closes : Closes c fault start family) where
  next_held : (v : List Bool) → length v ≡ c.inputs → (good faulty : List Tern) → IsHeld family good faulty
      → IsHeld family (next_state c (tern_rules None) (terns_of v) good)
      (next_state c (tern_rules (Some fault)) (terns_of v) faulty)
  next_held v wide good faulty h =
      let f = Some fault in
      record {
        pairs = next_state c (pair_rules f) (paired v v) h.pairs;
        held = widen (taken_sets c fault family) family (next_state c (pair_rules f) (paired v v) h.pairs)
            (closes.sets ∙ sym (taken_long c fault family)) closes.stays
            (next_related Has c (pair_set_rules f) (pair_rules f) (sets_keep f) (any_vector c) family (paired v v)
            h.pairs (vector_held c.inputs v wide) h.held);
        is_good = next_related GoodIs c (pair_rules f) (tern_rules None) (good_half f) (paired v v) h.pairs (terns_of v)
            good (paired_half (λ p. p.good) (λ b. refl) v) h.is_good;
        is_faulty = next_related FaultyIs c (pair_rules f) (tern_rules f) (faulty_half f) (paired v v) h.pairs
            (terns_of v) faulty (paired_half (λ p. p.faulty) (λ b. refl) v) h.is_faulty;
      }

  -- no output of a frame shows a difference
  frame_silent : (v : List Bool) → length v ≡ c.inputs → (good faulty : List Tern) → IsHeld family good faulty → (o : ℕ)
      → ¬ Opposite (get_or (frame_outputs c (tern_rules None) (terns_of v) good) o Unk)
      (get_or (frame_outputs c (tern_rules (Some fault)) (terns_of v) faulty) o Unk)
  frame_silent v wide good faulty h o d =
      let f = Some fault in
      let r = pair_set_rules f in
      let outs : List Pair = frame_outputs c (pair_rules f) (paired v v) h.pairs in
      let shown = outputs_related Has c r (pair_rules f) (sets_keep f) (any_vector c) family (paired v v) h.pairs
      (vector_held c.inputs v wide) h.held in
      let is_good = outputs_related GoodIs c (pair_rules f) (tern_rules None) (good_half f) (paired v v) h.pairs
      (terns_of v) good (paired_half (λ p. p.good) (λ b. refl) v) h.is_good in
      let is_faulty = outputs_related FaultyIs c (pair_rules f) (tern_rules f) (faulty_half f) (paired v v) h.pairs
      (terns_of v) faulty (paired_half (λ p. p.faulty) (λ b. refl) v) h.is_faulty in
      elim (le_or_lt (length (shown_sets c fault family)) o) [
        | inl past ↦ past_silent (shown_sets c fault family) outs _ _ o shown is_good is_faulty past d
        | inr inside ↦
            closes.silent o [] inside
            (opposite_member _ _ (get_or (shown_sets c fault family) o [])
            (held_pair (shown_sets c fault family) outs _ _ o shown is_good is_faulty inside) d)
      ]

  run_silent : (list : List (List Bool)) → AreVectors c list → (good faulty : List Tern) → IsHeld family good faulty
      → (t o : ℕ)
      → ¬ Opposite (get_or (get_or (run_outputs c (tern_rules None) good (map terns_of list)) t []) o Unk)
      (get_or (get_or (run_outputs c (tern_rules (Some fault)) faulty (map terns_of list)) t []) o Unk)
  run_silent [] wide good faulty h t o d = absurd d
  run_silent (v ∷ list) wide good faulty h zero o d =
      frame_silent v (wide 0 [] (omega arith)) good faulty h o d
  run_silent (v ∷ list) wide good faulty h (suc t) o d =
      run_silent list (λ k e l. wide (suc k) e (omega arith)) _ _
      (next_held v (wide 0 [] (omega arith)) good faulty h) t o d

  run_held : (list : List (List Bool)) → AreVectors c list → (good faulty : List Tern) → IsHeld family good faulty
      → IsHeld family (run_state c (tern_rules None) good (map terns_of list))
      (run_state c (tern_rules (Some fault)) faulty (map terns_of list))
  run_held [] wide good faulty h = h
  run_held (v ∷ list) wide good faulty h =
      run_held list (λ k e l. wide (suc k) e (omega arith)) _ _ (next_held v (wide 0 [] (omega arith)) good faulty h)

  begun : IsStart c start → IsHeld family start start
  begun is = record {
    pairs = both start;
    held = start_held family start (closes.sets ∙ sym is) closes.starts;
    is_good = start_good start;
    is_faulty = start_faulty start;
  }

  -- where a family closes for a start, the pair of each latch after a list of vectors is in its set
  pub closed_holds : IsStart c start → (list : List (List Bool)) → AreVectors c list → (j : ℕ) → j < length c.dffs
      → IsMember (pair (get_or (state_from c None start list) j Unk) (get_or (state_from c (Some fault) start list) j Unk))
      (get_or family j [])
  closed_holds is list wide j l =
      let h = run_held list wide start start (begun is) in
      held_pair family h.pairs _ _ j h.held h.is_good h.is_faulty (let e = closes.sets in omega (arith, l, e))

  -- where a family closes for a start, no list detects the fault from the start
  pub closed_silent : IsStart c start → (list : List (List Bool)) (t o : ℕ) → ¬ DetectsFrom c fault start list t o
  closed_silent is list t o d =
      run_silent (fit_list c list) (fit_vectors c list) start start (begun is) t o
      (shows_fitted c fault start start list t o d)

  -- where a family closes for a start, no list detects the fault from all-unknown
  pub closed_undetected : IsStart c start → (list : List (List Bool)) (t o : ℕ) → ¬ Detects c fault list t o
  closed_undetected is list t o d =
      closed_silent is list t o
      (detects_where_refined c fault start (unknown_state c) list t o (start_refines_unknown c start is) d)

  -- where a family closes for a start, the fault is undetectable
  pub closed_undetectable : IsStart c start → IsUndetectable c fault start
  closed_undetectable is = record { from_start = closed_silent is; from_unknown = closed_undetected is }
