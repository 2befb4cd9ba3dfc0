-- What is marked where a difference may show, and what is read there, is what matters.
use Rattle.std.proofs.Common.{◌≡◌, ◌<◌, ◌⊎◌, ℕ, Bool, true, Some, length, get_or, sym, ◌∙◌, ap, inl, inr}
use Rattle.ht_net.specs.declared.fault.Fault.{Fault}
use Rattle.ht_net.specs.Circuit.Netlist.{no_net}
use Rattle.ht_net.specs.Frames.Faults.{is_data_pin}
use Rattle.ht_tree.specs.Window.Windows.{SearchWindow, IsWindow}
use Rattle.ht_relevant.specs.Reached.{IsReach}
use Rattle.ht_relevant.specs.Relevant.{IsClosedBack, IsRelevant, counts_state}
use Rattle.ht_relevant.proofs.ReachLaws.{cell_alike, state_alike, unmarked}

-- where each place in reach is marked, and all that is read there, they are those that matter
pub relevant_found : (w : SearchWindow) (valid : IsWindow w) (fault : Fault) → w.fault ≡ Some fault → 0 < w.frames
    → (reach is : ℕ → ℕ → Bool) → IsReach w reach → IsClosedBack w.circuit w.frames is
    → ((f o : ℕ) → f < w.frames → o < length w.circuit.outputs → reach f (get_or w.circuit.outputs o no_net).0 ≡ true
    → is f (get_or w.circuit.outputs o no_net).0 ≡ true)
    → ((j : ℕ) → j < length w.circuit.dffs → counts_state w.start j ≡ true
    → (reach 0 (get_or w.circuit.dffs j no_net).0 ≡ true) ⊎ (is_data_pin fault.site j ≡ true)
    → is 0 (get_or w.circuit.dffs j no_net).0 ≡ true)
    → IsRelevant w is
relevant_found w valid fault at some reach is reached closed outputs states = record {
  closed = closed;
  outputs = λ f o fs os free path.
      let x = (get_or w.circuit.outputs o no_net).0 in
      cell_alike w valid reach reached path f x fs (valid.circuit.outputs_known o os)
      (unmarked (reach f x) (is f x) (outputs f o fs os) free);
  states = λ j js counts free path.
      let x = (get_or w.circuit.dffs j no_net).0 in
      state_alike w valid reach reached path j some js
      (unmarked (reach 0 x) (is 0 x) (λ m. states j js counts (inl m)) free)
      (λ k e. unmarked (is_data_pin k.site j) (is 0 x)
      (λ m. states j js counts (inr (ap (λ (q : Fault). is_data_pin q.site j) (sym (some_same k fault (sym e ∙ at)))
      ∙ m))) free);
} where
  some_same : (a b : Fault) → Some a ≡ Some b → a ≡ b
  some_same a b e = cc
