-- The states of some frames, one by one.
use Rattle.std.proofs.Common.{◌≡◌, ◌+◌, ◌∙◌, ℕ, suc, List, [], ◌∷◌, ◌++◌, map, Bool, None, length, refl, sym, ap, arith}
use Rattle.std.specs.List.{range_with_len}
use Rattle.std.proofs.lemmas.List.FromFn.{map-range_with_len_more}
use Rattle.ht_net.specs.Circuit.Netlist.{Netlist}
use Rattle.ht_net.specs.Frames.Frame.{next_state}
use Rattle.ht_net.specs.Frames.Faults.{bool_rules}
use Rattle.ht_random.specs.RandomVectors.{generator_after, random_vector, random_vectors}
use Rattle.ht_random.specs.Words.{after_words}
use Rattle.ht_random.proofs.RandomVectorLaws.{generator_after_more}
use Rattle.rand_pcg.specs.Lcg.{Lcg}
use Rattle.ht_serial.specs.MachineState.{MachineState}
use Rattle.ht_serial.proofs.RunLaws.{run_state_more}
use Rattle.ht_invariant.specs.FoundClauses.{state_after, tried_frames}

-- 64 frames are tried
pub frames_are : tried_frames ≡ 64
unfolding tried_frames
frames_are = refl

-- The frames tried so far.
pub record AreTried (c : Netlist) (state : List Bool) (k : ℕ) (states : List (List Bool)) (machine : MachineState Bool)
    (words : Lcg) : Type 0 where
  pub states_are : states ≡ map (state_after c state) (range_with_len 0 (k + 1))
  pub circuit_is : machine.circuit ≡ c
  pub no_fault : machine.fault ≡ None
  pub latches_are : machine.latches ≡ state_after c state k
  pub words_are : words ≡ generator_after c.inputs k 0

module _ (c : Netlist) (state : List Bool) (held : length state ≡ length c.dffs) where
  -- the next state after k frames, by the random vector that follows, is the state after k + 1 frames
  pub state_more : (k : ℕ) (vector : List Bool) → vector ≡ random_vector c.inputs (generator_after c.inputs k 0)
      → next_state c (bool_rules None) vector (state_after c state k) ≡ state_after c state (k + 1)
  state_more k vector is =
      ap (λ (v : List Bool). next_state c (bool_rules None) v (state_after c state k)) is
      ∙ (sym (run_state_more c (bool_rules None) state (random_vectors c.inputs k 0)
      (random_vector c.inputs (generator_after c.inputs k 0)))
      ∙ ap (λ (n : ℕ). state_after c state n) (let e : suc k ≡ k + 1 = omega arith in e))

  -- a frame by the random vector that follows, with its state added, is one more frame tried
  pub tried_more : (k : ℕ) (states more : List (List Bool)) (machine next : MachineState Bool) (words after : Lcg)
      (vector row : List Bool) → AreTried c state k states machine words
      → vector ≡ random_vector c.inputs words → after ≡ after_words c.inputs words
      → next.circuit ≡ machine.circuit → next.fault ≡ machine.fault
      → next.latches ≡ next_state machine.circuit (bool_rules machine.fault) vector machine.latches
      → row ≡ next.latches → more ≡ states ++ row ∷ [] → AreTried c state (k + 1) more next after
  tried_more k states more machine next words after vector row h v w circuit fault latches row_is more_is =
      let vector_is = v ∙ ap (random_vector c.inputs) h.words_are in
      let now : next.latches ≡ state_after c state (k + 1) =
      latches ∙ ((λ i. next_state (h.circuit_is i) (bool_rules (h.no_fault i)) vector (h.latches_are i))
      ∙ state_more k vector vector_is) in
      record {
        states_are = more_is ∙ ((λ i. h.states_are i ++ (row_is ∙ now) i ∷ [])
            ∙ sym (map-range_with_len_more (state_after c state) 0 (k + 1) (k + 1) (omega arith)));
        circuit_is = circuit ∙ h.circuit_is;
        no_fault = fault ∙ h.no_fault;
        latches_are = now;
        words_are = w ∙ (ap (after_words c.inputs) h.words_are ∙ sym (generator_after_more c.inputs k 0));
      }
