-- What outputs show and flip-flops take under two sets of rules.
use Rattle.std.proofs.Common.{◌≡◌, ◌≢◌, ◌<◌, ◌≤◌, ◌+◌, ◌∙◌, ℕ, suc, zero, List, [], ◌∷◌, length, get_or, set, refl, sym, ap, arith}
use Rattle.ht_tern.specs.declared.tern.Tern.{Tern}
use Rattle.ht_net.specs.declared.net.NetId.{NetId}
use Rattle.ht_net.specs.Circuit.Netlist.{Netlist, net_count, no_net, IsCircuit}
use Rattle.ht_net.specs.Frames.Frame.{Rules, values_at, data_values, net_value, frame_outputs, next_state}
use Rattle.ht_net.proofs.ValueLaws.{seen_same}
use Rattle.ht_stems.specs.ArrivedFrames.{ShowSame}

-- Only one output may show something else.
seen_but : {V : Type 0} → (e f : ℕ → V) (k : ℕ) (xs : List NetId) → k < length xs
    → ((o : ℕ) → o < length xs → o ≢ k → e (get_or xs o no_net).0 ≡ f (get_or xs o no_net).0)
    → values_at e xs ≡ set (values_at f xs) k (e (get_or xs k no_net).0)
seen_but e f k [] inside h = absurd (omega arith)
seen_but {V} e f zero (x ∷ xs) inside h =
    ap (λ (t : List V). e x.0 ∷ t)
    (seen_same e f xs (λ o l. h (suc o) (omega arith) (λ (z : suc o ≡ 0). absurd (omega arith))))
seen_but e f (suc k) (x ∷ xs) inside h =
    let here : e x.0 ≡ f x.0 = h 0 (omega arith) (λ (z : 0 ≡ suc k). absurd (omega arith)) in
    let rest : values_at e xs ≡ set (values_at f xs) k (e (get_or xs k no_net).0) =
    seen_but e f k xs (omega arith) (λ o l ne. h (suc o) (omega arith) (λ (z : suc o ≡ suc k). ne (omega arith))) in
    cc

-- Flip-flops take the same where the data pins do the same to the same values.
taken_alike : {V : Type 0} → (r s : Rules V) (e f : ℕ → V) (j : ℕ) (xs : List NetId)
    → ((i : ℕ) (v : V) → j ≤ i → r.data_pin i v ≡ s.data_pin i v)
    → ((o : ℕ) → o < length xs → e (get_or xs o no_net).0 ≡ f (get_or xs o no_net).0)
    → data_values r e j xs ≡ data_values s f j xs
taken_alike r s e f j [] pins h = refl
taken_alike r s e f j (x ∷ xs) pins h =
    let here : r.data_pin j (e x.0) ≡ s.data_pin j (f x.0) =
    pins j (e x.0) (omega arith) ∙ ap (s.data_pin j) (h 0 (omega arith)) in
    let rest : data_values r e (j + 1) xs ≡ data_values s f (j + 1) xs =
    taken_alike r s e f (j + 1) xs (λ i v l. pins i v (omega arith)) (λ o l. h (suc o) (omega arith)) in
    cc

-- Only one flip-flop may take something else.
taken_but : {V : Type 0} → (r s : Rules V) (e f : ℕ → V) (j k : ℕ) (v : V) (xs : List NetId) → k < length xs
    → ((i : ℕ) (w : V) → i ≢ j + k → r.data_pin i w ≡ s.data_pin i w)
    → ((o : ℕ) → o < length xs → o ≢ k → e (get_or xs o no_net).0 ≡ f (get_or xs o no_net).0)
    → v ≡ r.data_pin (j + k) (e (get_or xs k no_net).0)
    → data_values r e j xs ≡ set (data_values s f j xs) k v
taken_but r s e f j k v [] inside pins h takes = absurd (omega arith)
taken_but r s e f j zero v (x ∷ xs) inside pins h takes =
    let at : j + 0 ≡ j = omega arith in
    let here : r.data_pin j (e x.0) ≡ v = ap (λ (n : ℕ). r.data_pin n (e x.0)) (sym at) ∙ sym takes in
    let rest : data_values r e (j + 1) xs ≡ data_values s f (j + 1) xs =
    taken_alike r s e f (j + 1) xs (λ i w l. pins i w (λ (z : i ≡ j + 0). absurd (omega arith)))
    (λ o l. h (suc o) (omega arith) (λ (z : suc o ≡ 0). absurd (omega arith))) in
    cc
taken_but r s e f j (suc k) v (x ∷ xs) inside pins h takes =
    let at : j + suc k ≡ j + 1 + k = omega arith in
    let here : r.data_pin j (e x.0) ≡ s.data_pin j (f x.0) =
    pins j (e x.0) (λ (z : j ≡ j + suc k). absurd (omega arith))
    ∙ ap (s.data_pin j) (h 0 (omega arith) (λ (z : 0 ≡ suc k). absurd (omega arith))) in
    let rest : data_values r e (j + 1) xs ≡ set (data_values s f (j + 1) xs) k v =
    taken_but r s e f (j + 1) k v xs (omega arith)
    (λ i w ne. pins i w (λ (z : i ≡ j + suc k). ne (omega arith)))
    (λ o l ne. h (suc o) (omega arith) (λ (z : suc o ≡ suc k). ne (omega arith)))
    (takes ∙ ap (λ (n : ℕ). r.data_pin n (e (get_or xs k no_net).0)) at) in
    cc

module _ {V : Type 0} (c : Netlist) (r s : Rules V) (vector latches : List V) where
  -- outputs show the same in two machines where their nets have the same values
  pub outputs_same : ((o : ℕ) → o < length c.outputs
      → net_value c r vector latches (get_or c.outputs o no_net).0
      ≡ net_value c s vector latches (get_or c.outputs o no_net).0)
      → frame_outputs c r vector latches ≡ frame_outputs c s vector latches
  unfolding frame_outputs
  outputs_same h = seen_same (net_value c r vector latches) (net_value c s vector latches) c.outputs h

  -- where the nets of all outputs but one have the same values, only that output may show something else
  pub outputs_but : (k : ℕ) (v : V) → k < length c.outputs
      → net_value c r vector latches (get_or c.outputs k no_net).0 ≡ v
      → ((o : ℕ) → o < length c.outputs → o ≢ k
      → net_value c r vector latches (get_or c.outputs o no_net).0
      ≡ net_value c s vector latches (get_or c.outputs o no_net).0)
      → frame_outputs c r vector latches ≡ set (frame_outputs c s vector latches) k v
  unfolding frame_outputs
  outputs_but k v inside is h =
      seen_but (net_value c r vector latches) (net_value c s vector latches) k c.outputs inside h
      ∙ ap (set (values_at (net_value c s vector latches) c.outputs) k) is

  -- flip-flops take the same in two machines where their data pins act alike and read the same values
  pub next_same : ((i : ℕ) (v : V) → r.data_pin i v ≡ s.data_pin i v)
      → ((j : ℕ) → j < length c.dffs
      → net_value c r vector latches (get_or c.dffs j no_net).0
      ≡ net_value c s vector latches (get_or c.dffs j no_net).0)
      → next_state c r vector latches ≡ next_state c s vector latches
  unfolding next_state
  next_same pins h = taken_alike r s (net_value c r vector latches) (net_value c s vector latches) 0 c.dffs
      (λ i v l. pins i v) h

  -- where all data pins but one act alike and read the same values, only that flip-flop may take something else
  pub next_but : (k : ℕ) (v : V) → k < length c.dffs
      → v ≡ r.data_pin k (net_value c r vector latches (get_or c.dffs k no_net).0)
      → ((i : ℕ) (w : V) → i ≢ k → r.data_pin i w ≡ s.data_pin i w)
      → ((j : ℕ) → j < length c.dffs → j ≢ k
      → net_value c r vector latches (get_or c.dffs j no_net).0
      ≡ net_value c s vector latches (get_or c.dffs j no_net).0)
      → next_state c r vector latches ≡ set (next_state c s vector latches) k v
  unfolding next_state
  next_but k v inside takes pins h =
      let at : 0 + k ≡ k = omega arith in
      taken_but r s (net_value c r vector latches) (net_value c s vector latches) 0 k v c.dffs inside
      (λ i w ne. pins i w (λ e. ne (omega (arith, e)))) h
      (takes ∙ ap (λ (n : ℕ). r.data_pin n (net_value c r vector latches (get_or c.dffs k no_net).0)) (sym at))

-- Frames whose nets have the same values show the same.
pub show_same : (c : Netlist) (circuit : IsCircuit c) (r s : Rules Tern) (vector latches : List Tern)
    → ((i : ℕ) (v : Tern) → r.data_pin i v ≡ s.data_pin i v)
    → ((y : ℕ) → y < net_count c → net_value c r vector latches y ≡ net_value c s vector latches y)
    → ShowSame c r s vector latches
show_same c circuit r s vector latches pins h = record {
  outputs = outputs_same c r s vector latches (λ o l. h _ (circuit.outputs_known o l));
  next = next_same c r s vector latches pins (λ j l. h _ (circuit.data_known j l));
}
