-- What the searches for a list that synchronizes rule out, and what a found list does.
use Rattle.std.proofs.Common.{◌≡◌, ◌<◌, ◌-◌, ◌*◌, ℕ, suc, zero, List, [], ◌∷◌, map, replicate, Bool, true, false, IsTrue, None, length, get_or, refl, sym, ◌∙◌, ap, inl, inr, arith, subst}
use Rattle.std.proofs.lemmas.Bool.{both_ways, ltb-true, or_cases}
use Rattle.ht_tern.specs.Gate.{AllRelated, Refines, StandsFor, tern_of}
use Rattle.ht_tern.specs.declared.tern.Tern.{Tern}
use Rattle.ht_tern.specs.declared.tern.Tern.TheVariants.{One, Unk, Zero}
use Rattle.ht_pairs.specs.Pairs.{IsMember, Pair, pair}
use Rattle.ht_net.specs.Detect.Detection.{terns_of, unknown_state}
use Rattle.ht_net.specs.Frames.Faults.{bool_rules, tern_rules}
use Rattle.ht_net.specs.Frames.Frame.{next_state, run_state}
use Rattle.ht_net.specs.Circuit.Netlist.{Netlist}
use Rattle.ht_net.proofs.FaultLaws.{machine_bits}
use Rattle.ht_net.proofs.RelationLaws.{next_related}
use Rattle.ht_tree.specs.Walk.FoundLists.{list_of}
use Rattle.ht_tree.specs.Window.Places.{set_at}
use Rattle.ht_tree.specs.Record.Reached.{AreVectors}
use Rattle.ht_tree.specs.Walk.Searches.{FindsAt}
use Rattle.ht_tree.specs.Window.Variables.{may_two}
use Rattle.ht_tree.specs.Walk.Walks.{IsComplete, Node, path_of}
use Rattle.ht_tree.specs.Window.WindowStatus.{is_definite}
use Rattle.ht_tree.specs.Window.WalkBack.{wants_one}
use Rattle.ht_tree.specs.Window.Windows.{SearchWindow}
use Rattle.ht_tree.specs.declared.token.Assign3.{Assign3}
use Rattle.ht_tree.specs.declared.token.Status3.TheVariants.{Dead, Sure}
use Rattle.ht_tree.specs.declared.token.Token.{Token}
use Rattle.ht_tree.specs.declared.window.Spot.TheVariants.{State}
use Rattle.ht_records.proofs.RunLaws.{AllowsRun, next_has}
use Rattle.ht_records.proofs.RunStateLaws.{end_state, nth, run_held, state_in, unknown_held}
use Rattle.ht_records.proofs.ShownLaws.{next_at, unknown_at}
use Rattle.ht_records.proofs.SureLaws.{list_length}
use Rattle.ht_records.proofs.WidthLaws.{fit_length, fit_list, fit_vectors, reaches_fitted}
use Rattle.ht_forward.specs.RunGoals.{RunHas}
use Rattle.ht_forward.specs.Lengths.{AreShort}
use Rattle.ht_sync.specs.SyncWindows.{last_set, sync_goal, sync_guide, sync_window}
use Rattle.ht_sync.specs.Synchronizing.{EndsEachRun, Synchronizes, SynchronizesTo, state_after}
use Rattle.ht_forward.proofs.GoalLaws.{goal_walk_short}
use Rattle.ht_forward.proofs.RunGoalLaws.{dead_run, sure_run}
use Rattle.ht_sync.proofs.LastLaws.{StaysUnknown, dead_stays, last_is, sure_known}

-- Where a path leaves a list of k vectors to the window of k frames, the state after the list lies in the last sets.
module _ (c : Netlist) (k : ℕ) (some : 0 < k) (path : List Assign3) (list : List (List Bool)) (long : length list ≡ k)
    (allows : AllowsRun (sync_window c k) path list (unknown_state c) (unknown_state c)) where
  abbrev w : SearchWindow
  w = sync_window c k

  abbrev value : ℕ → Tern
  value j = get_or (state_after c list) j Unk

  -- the value of a latch after the list, in both halves of a pair, is a member of its last set
  pub last_member : (j : ℕ) → j < length c.dffs → IsMember (pair (value j) (value j)) (last_set w path j)
  last_member j inside =
      let r = tern_rules None in
      let f = k - 1 in
      let start = unknown_state c in
      let before = state_in c None start list f in
      let at : length list ≡ suc f = omega (arith, some, long) in
      let step : Tern = get_or (next_state c r (terns_of (nth list f)) before) j Unk in
      let is : value j ≡ step =
      ap (λ (s : List Tern). get_or s j Unk) (end_state c None start list ∙ ap (state_in c None start list) at) in
      let here : IsMember (pair step step) (set_at w path f (State j)) =
      subst (λ (v : Tern). IsMember (pair v v) (set_at w path f (State j)))
      (sym (next_at c r (terns_of (nth list f)) before j Unk inside))
      (next_has w path list start start allows f j (omega (arith, at))) in
      subst (λ (v : Tern). IsMember (pair v v) (last_set w path j)) (sym is)
      (subst (λ (s : List Pair). IsMember (pair step step) s) (sym (last_is w path j some inside)) here)

-- every latch of the first frame is unknown in both halves
starts_unknown : (c : Netlist) (j : ℕ)
    → IsMember (pair (get_or (unknown_state c) j Unk) (get_or (unknown_state c) j Unk)) (pair Unk Unk ∷ [])
starts_unknown c j =
    let m = length c.dffs in
    inl (λ i. pair (unknown_at m j i) (unknown_at m j i))

-- a complete walk of k frames: no list of k vectors of the circuit's width synchronizes
complete_none : (c : Netlist) (k : ℕ) (tokens : List Token) → 0 < k → IsComplete (sync_guide c k).judge tokens
    → (list : List (List Bool)) → length list ≡ k → AreVectors c list → ¬ Synchronizes c list
complete_none c k tokens some complete list long wide definite =
    let w = sync_window c k in
    let dead : RunHas w (sync_goal w) Dead list (unknown_state c) (unknown_state c) =
    dead_run w (sync_goal w) (unknown_state c) (unknown_state c) (unknown_held c) (unknown_held c)
    (λ path j l. starts_unknown c j) tokens complete list wide in
    let stays : StaysUnknown w dead.path = dead_stays w dead.path dead.is in
    let v = get_or (state_after c list) stays.latch Unk in
    let unknown : v ≡ Unk =
    stays.unknown v (last_member c k some dead.path list long dead.allows stays.latch stays.inside) in
    both_ways (is_definite v) (ap is_definite unknown) (definite stays.latch stays.inside)

definite_more : (a b : Tern) → Refines a b → is_definite b ≡ true → is_definite a ≡ true
definite_more a b (inl e) h = absurd (both_ways (is_definite b) (ap is_definite e) h)
definite_more a b (inr e) h = ap is_definite e ∙ h

-- a list at the circuit's width synchronizes where the list itself does
fitted_synchronizes : (c : Netlist) (list : List (List Bool)) → Synchronizes c list → Synchronizes c (fit_list c list)
fitted_synchronizes c list h j l =
    definite_more _ _ (reaches_fitted c list (state_after c list) (λ i k. inr refl) j l) (h j l)

-- a complete walk of k frames: no list of k vectors synchronizes
pub complete_unsynchronized : (c : Netlist) (k : ℕ) (tokens : List Token) → 0 < k
    → IsComplete (sync_guide c k).judge tokens → (list : List (List Bool)) → length list ≡ k → ¬ Synchronizes c list
complete_unsynchronized c k tokens some complete list long h =
    complete_none c k tokens some complete (fit_list c list) (fit_length c list ∙ long) (fit_vectors c list)
    (fitted_synchronizes c list h)

-- the list of a node that is found synchronizes
pub found_synchronizes : (c : Netlist) (k budget unit : ℕ) (tokens : List Token) (n : Node) → 0 < k
    → FindsAt (sync_guide c k) budget unit tokens n → Synchronizes c (list_of c (path_of n) k)
found_synchronizes c k budget unit tokens n some finds j l =
    let w = sync_window c k in
    let list = list_of c (path_of n) k in
    let sure : RunHas w (sync_goal w) Sure list (unknown_state c) (unknown_state c) =
    sure_run w (sync_goal w) (unknown_state c) (unknown_state c) (unknown_held c) (unknown_held c)
    (λ path j l. starts_unknown c j) (λ var. refl) budget unit tokens n k finds in
    sure_known w sure.path sure.is j l (get_or (state_after c list) j Unk)
    (last_member c k some sure.path list (list_length c (path_of n) k) sure.allows j l)

-- without vectors every latch stays unknown
pub empty_unsynchronized : (c : Netlist) → 0 < length c.dffs → ¬ Synchronizes c []
empty_unsynchronized c some h =
    both_ways (is_definite (get_or (unknown_state c) 0 Unk)) (ap is_definite (unknown_at (length c.dffs) 0)) (h 0 some)

-- a state whose latches are definite is one of bits
definite_bit : (v : Tern) → is_definite v ≡ true → v ≡ tern_of (wants_one v)
definite_bit Zero h = refl
definite_bit One h = refl
definite_bit Unk h = cc

definite_bits : (s : List Tern) → ((j : ℕ) → j < length s → is_definite (get_or s j Unk) ≡ true)
    → s ≡ terns_of (map wants_one s)
definite_bits [] h = refl
definite_bits (v ∷ s) h =
    let first = definite_bit v (h 0 (omega arith)) in
    let rest = definite_bits s (λ j l. h (suc j) (omega (arith, l))) in
    (λ i. first i ∷ rest i)

-- a list that synchronizes does so to the bits of the state after it
pub synchronizes_to : (c : Netlist) (list : List (List Bool)) → Synchronizes c list
    → SynchronizesTo c list (map wants_one (state_after c list))
synchronizes_to c list h =
    let long = run_held c None (unknown_state c) list (unknown_held c) in
    definite_bits (state_after c list) (λ j l. h j (omega (arith, l, long)))

-- over a list that synchronizes every two-valued run ends in the same state
bits_stand : (bits : List Bool) → AllRelated StandsFor (terns_of bits) bits
bits_stand [] = tt
bits_stand (b ∷ bits) = (inr refl, bits_stand bits)

any_state : (n : ℕ) (state : List Bool) → length state ≡ n → AllRelated StandsFor (replicate n Unk) state
any_state zero [] e = tt
any_state zero (b ∷ state) e = absurd (omega arith)
any_state (suc n) [] e = absurd (omega arith)
any_state (suc n) (b ∷ state) e = (inl refl, any_state n state (omega arith))

runs_stand : (c : Netlist) (xs : List Tern) (s : List Bool) (list : List (List Bool)) → AllRelated StandsFor xs s
    → AllRelated StandsFor (run_state c (tern_rules None) xs (map terns_of list))
    (run_state c (bool_rules None) s list)
runs_stand c xs s [] h = h
runs_stand c xs s (v ∷ list) h =
    runs_stand c (next_state c (tern_rules None) (terns_of v) xs) (next_state c (bool_rules None) v s) list
    (next_related StandsFor c (tern_rules None) (bool_rules None) (machine_bits None) (terns_of v) xs v s
    (bits_stand v) h)

same_bit : (b d : Bool) → StandsFor (tern_of b) d → d ≡ b
same_bit false false h = refl
same_bit true true h = refl
same_bit false true (inl e) = cc
same_bit false true (inr e) = cc
same_bit true false (inl e) = cc
same_bit true false (inr e) = cc

same_bits : (state t : List Bool) → AllRelated StandsFor (terns_of state) t → t ≡ state
same_bits [] [] h = refl
same_bits [] (d ∷ t) h = absurd h
same_bits (b ∷ state) [] h = absurd h
same_bits (b ∷ state) (d ∷ t) h =
    let first = same_bit b d h.0 in
    let rest = same_bits state t h.1 in
    (λ i. first i ∷ rest i)

-- over a list that synchronizes to a state, each two-valued run ends in this state
pub ends_each_run : (c : Netlist) (list : List (List Bool)) (state : List Bool) → SynchronizesTo c list state
    → EndsEachRun c list state
ends_each_run c list state to start is =
    same_bits state (run_state c (bool_rules None) start list)
    (subst (λ (s : List Tern). AllRelated StandsFor s (run_state c (bool_rules None) start list)) to
    (runs_stand c (unknown_state c) start list (any_state (length c.dffs) start is)))

-- the walks of the window of k frames are short
variable_below : (c : Netlist) (k var : ℕ) → IsTrue (may_two (sync_window c k) var) → var < k * c.inputs
variable_below c k var h = elim (or_cases _ false h) [
  | inl e ↦ ltb-true _ _ e
  | inr e ↦ cc
]

-- the walks in a window of k frames are shorter than 2^(k * n + 1) tokens, for n inputs
pub sync_walks_short : (c : Netlist) → AreShort (λ k. (sync_guide c k).judge) c.inputs
sync_walks_short c k tokens some fit =
    goal_walk_short (sync_goal (sync_window c k)) (k * c.inputs) (variable_below c k) (λ var. refl) tokens fit
