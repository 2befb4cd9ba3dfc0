-- The set of held flip-flops is closed, and a closed set stays unknown from all-unknown.
use Rattle.std.proofs.Common.{◌≡◌, ◌<◌, ◌≤◌, ℕ, suc, zero, List, [], Bool, true, None, length, get_or, refl, sym, ◌∙◌, ap, inl, inr, arith}
use Rattle.ht_tern.specs.declared.tern.Tern.{Tern}
use Rattle.ht_tern.specs.declared.tern.Tern.TheVariants.{Unk}
use Rattle.ht_tern.specs.Gate.{Refines}
use Rattle.ht_net.specs.Detect.Detection.{terns_of, unknown_state}
use Rattle.ht_net.specs.Frames.Faults.{forced, tern_rules}
use Rattle.ht_net.specs.Frames.Frame.{net_value, next_state}
use Rattle.ht_net.specs.Circuit.Netlist.{Netlist}
use Rattle.ht_net.proofs.RelationLaws.{get_related}
use Rattle.ht_tree.specs.Window.Decisions.{is_in}
use Rattle.ht_tree.specs.Walk.Walks.{IsComplete}
use Rattle.ht_tree.specs.declared.token.Token.{Token}
use Rattle.ht_records.proofs.RunStateLaws.{end_state, nth, state_held, state_in, unknown_held}
use Rattle.ht_records.proofs.ShownLaws.{next_at, unknown_at}
use Rattle.ht_records.proofs.WidthLaws.{fit_length, fit_list, fit_vectors, state_refines}
use Rattle.ht_uninit.specs.ClosedSets.{AreUnknown, IsClosedSet, StayUnknown}
use Rattle.ht_faults.specs.Sites.{data_net}
use Rattle.ht_uninit.specs.HeldWindows.{held_judge}
use Rattle.ht_uninit.proofs.UnknownLaws.{net_unknown}

-- what flip-flop j of the good machine takes
pub next_good : (c : Netlist) (vector state : List Tern) (j : ℕ) → j < length c.dffs
    → get_or (next_state c (tern_rules None) vector state) j Unk ≡ net_value c (tern_rules None) vector state (data_net c j)
unfolding forced
next_good c vector state j l = next_at c (tern_rules None) vector state j Unk l

-- a set is closed where the walk for each member's next state is complete
pub held_closed : (c : Netlist) (u : List ℕ)
    → ((j : ℕ) → j < length c.dffs → is_in u j ≡ true
    → (tokens : List Token) × IsComplete (held_judge c u (data_net c j)) tokens)
    → IsClosedSet c (is_in u)
held_closed c u walks = record {
  stays = λ vector state wide held unknown j l inside.
      let walk = walks j l inside in
      next_good c (terns_of vector) state j l
      ∙ net_unknown c u (data_net c j) walk.0 walk.1 vector state wide held unknown;
}

-- what an unknown value is refined by is unknown
pub unknown_refined : (a b : Tern) → Refines a b → a ≡ Unk → b ≡ Unk
unknown_refined a b (inl e) h = e
unknown_refined a b (inr e) h = sym e ∙ h

module _ (c : Netlist) (u : ℕ → Bool) (closed : IsClosedSet c u) where
  -- before each frame of a list at the circuit's width
  pub frame_unknown : (list : List (List Bool)) → ((f : ℕ) → f < length list → length (nth list f) ≡ c.inputs) → (f : ℕ)
      → f ≤ length list → AreUnknown c u (state_in c None (unknown_state c) list f)
  frame_unknown list wide zero few j l inside = unknown_at (length c.dffs) j
  frame_unknown list wide (suc f) few j l inside =
      closed.stays (nth list f) (state_in c None (unknown_state c) list f) (wide f (omega arith))
      (state_held c None (unknown_state c) list f (unknown_held c)) (frame_unknown list wide f (omega arith)) j l inside

  -- the flip-flops of a closed set are unknown after every list of vectors
  pub closed_stays : StayUnknown c u
  closed_stays list j l inside =
      let start = unknown_state c in
      let n = fit_length c list in
      let k = length list in
      let fit = frame_unknown (fit_list c list) (λ f h. fit_vectors c list f [] h) k (omega (arith, n)) j l inside in
      let related = get_related Refines (state_in c None start (fit_list c list) k) (state_in c None start list k) j Unk
      Unk (state_refines c None start list k (omega arith)) (inr refl) in
      ap (λ (s : List Tern). get_or s j Unk) (end_state c None start list)
      ∙ unknown_refined _ _ related fit
