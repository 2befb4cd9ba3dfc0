-- A complete walk of the one-frame window of a fault and a set under clauses seals the fault in the set, as long as the
-- clauses are met; and then both machines give equal outputs from a state of an invariant.
use Rattle.std.proofs.Common.{◌≡◌, ℕ, List, [], ◌∷◌, Bool, true, false, Some, None, length, get_or, refl, sym, ◌∙◌, ap, arith}
use Rattle.std.proofs.lemmas.List.FromFn.{length-map-range_with_len}
use Rattle.ht_net.specs.declared.fault.Fault.{Fault}
use Rattle.ht_net.specs.Circuit.Netlist.{Netlist, IsCircuit, no_net}
use Rattle.ht_net.specs.Frames.Frame.{net_value, frame_outputs, next_state, run_outputs}
use Rattle.ht_net.specs.Frames.Faults.{bool_rules}
use Rattle.ht_net.specs.Detect.Detection.{IsState}
use Rattle.ht_net.specs.Detect.Silence.{AgreeOutside}
use Rattle.ht_net.proofs.DepthLaws.{circuit_depth}
use Rattle.ht_net.proofs.ValueLaws.{seen_same, next_long}
use Rattle.ht_tree.specs.declared.token.Token.{Token}
use Rattle.ht_tree.specs.declared.window.Spot.TheVariants.{Output, State}
use Rattle.ht_tree.specs.Walk.Walks.{IsComplete}
use Rattle.ht_tree.specs.Window.Decisions.{is_in}
use Rattle.ht_tree.specs.Window.Windows.{SearchWindow, one_frame_window}
use Rattle.ht_tree.specs.Window.Places.{set_at}
use Rattle.ht_tree.proofs.FittedLaws.{fitted, outputs_fitted, next_fitted}
use Rattle.ht_tree.proofs.PlaceLaws.{output_listed, state_listed, place_quiet, bits_same}
use Rattle.ht_tree.proofs.WindowLaws.{cell_has, next_has}
use Rattle.ht_tree.specs.declared.clause.Literal.{Literal}
use Rattle.ht_tree.specs.Clause.Clauses.{AreKnownClauses, meets_each}
use Rattle.ht_tree.specs.Clause.ClauseWindows.{difference, judge_under, window_under}
use Rattle.ht_tree.specs.Clause.SealedInClauses.{SealedIn}
use Rattle.ht_records.proofs.DeadLaws.{DeadPath, dead_path}
use Rattle.ht_records.proofs.InvariantLaws.{AreKept, kept_fitted}

module _ (c : Netlist) (fault : Fault) (z : List ℕ) (clauses : List (List Literal)) (tokens : List Token)
    (circuit : IsCircuit c) (known : AreKnownClauses c clauses)
    (complete : IsComplete (judge_under (window_under c fault z clauses)) tokens)
    (vector s t : List Bool) (wide : length vector ≡ c.inputs) (held : IsState c s) (held' : IsState c t)
    (met : meets_each clauses s ≡ true) (agree : AgreeOutside c (is_in z) s t) where
  abbrev w : SearchWindow
  w = one_frame_window c fault z

  dead : DeadPath c (Some fault) z difference vector s t
  dead = dead_path c (Some fault) z difference clauses tokens known complete vector s t wide held held' met agree

  -- where the states agree outside the set and the good one meets the clauses, both machines give equal outputs
  pub outputs_agree : frame_outputs c (bool_rules None) vector s ≡ frame_outputs c (bool_rules (Some fault)) vector t
  unfolding frame_outputs
  outputs_agree =
      let d = circuit_depth c circuit in
      let good = net_value c (bool_rules None) vector s in
      let faulty = net_value c (bool_rules (Some fault)) vector t in
      let p = dead in
      seen_same good faulty c.outputs (λ o l.
      let x = (get_or c.outputs o no_net).0 in
      bits_same (set_at w p.path 0 (Output o)) (good x) (faulty x)
      (cell_has c (Some fault) z p.path vector s t p.allows d.0 circuit d.1 x (circuit.outputs_known o l))
      (place_quiet w p.path (record { frame = 0; spot = Output o }) p.dead (output_listed w 0 o (omega arith) l)))

  -- where the states agree outside the set and the good one meets the clauses, the next states agree outside it
  pub next_agrees : AgreeOutside c (is_in z) (next_state c (bool_rules None) vector s)
      (next_state c (bool_rules (Some fault)) vector t)
  next_agrees j inside out =
      let d = circuit_depth c circuit in
      let p = dead in
      bits_same (set_at w p.path 0 (State j)) _ _
      (next_has c (Some fault) z p.path vector s t p.allows d.0 circuit d.1 j inside)
      (place_quiet w p.path (record { frame = 0; spot = State j }) p.dead (state_listed w z j refl inside out))

-- a complete walk of a fault's one-frame window under clauses seals the fault in the set as long as they are met
pub walk_seals_in : (c : Netlist) (fault : Fault) (z : List ℕ) (clauses : List (List Literal)) (tokens : List Token)
    → IsCircuit c → AreKnownClauses c clauses → IsComplete (judge_under (window_under c fault z clauses)) tokens
    → SealedIn c fault (is_in z) clauses
walk_seals_in c fault z clauses tokens circuit known complete = record {
  outputs = outputs_agree c fault z clauses tokens circuit known complete;
  stays = next_agrees c fault z clauses tokens circuit known complete;
}

-- from states that agree outside a set that seals the fault, the good one meeting clauses that are kept, equal outputs
-- for every list
pub sealed_in_runs : (c : Netlist) (fault : Fault) (z : ℕ → Bool) (clauses : List (List Literal))
    → SealedIn c fault z clauses → AreKept c clauses → (list : List (List Bool)) (s t : List Bool) → IsState c s
    → IsState c t → meets_each clauses s ≡ true → AgreeOutside c z s t
    → run_outputs c (bool_rules None) s list ≡ run_outputs c (bool_rules (Some fault)) t list
sealed_in_runs c fault z clauses seal kept [] s t hs ht met agree = refl
sealed_in_runs c fault z clauses seal kept (vector ∷ list) s t hs ht met agree =
    let v = fitted c.inputs false vector in
    let wide : length v ≡ c.inputs = length-map-range_with_len (λ i. get_or vector i false) 0 c.inputs in
    let here : frame_outputs c (bool_rules None) vector s ≡ frame_outputs c (bool_rules (Some fault)) vector t =
    outputs_fitted c (bool_rules None) vector s ∙
    (seal.outputs v s t wide hs ht met agree ∙ sym (outputs_fitted c (bool_rules (Some fault)) vector t)) in
    let g = next_fitted c (bool_rules None) vector s in
    let f = next_fitted c (bool_rules (Some fault)) vector t in
    let stays : AgreeOutside c z (next_state c (bool_rules None) vector s)
    (next_state c (bool_rules (Some fault)) vector t) =
    λ j inside out. ap (λ (l : List Bool). get_or l j false) g ∙
    (seal.stays v s t wide hs ht met agree j inside out ∙ sym (ap (λ (l : List Bool). get_or l j false) f)) in
    let rest = sealed_in_runs c fault z clauses seal kept list (next_state c (bool_rules None) vector s)
    (next_state c (bool_rules (Some fault)) vector t)
    (next_long c (bool_rules None) vector s) (next_long c (bool_rules (Some fault)) vector t)
    (kept_fitted c clauses kept vector s hs met) stays in
    (λ k. here k ∷ rest k)
