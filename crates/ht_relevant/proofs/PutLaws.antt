-- Nets get their numbers one after the other.
use Rattle.std.proofs.Common.{◌≡◌, ◌≢◌, ◌<◌, ◌≤◌, ◌+◌, ◌⊎◌, ℕ, List, Bool, true, false, length, get_or, sym, subst, inl, inr, arith}
use Rattle.std.proofs.lemmas.Bool.Decides.{eqb_tells}
use Rattle.ht_net.specs.declared.fault.Site.{Site}
use Rattle.ht_net.specs.declared.net.NetId.{NetId}
use Rattle.ht_net.specs.Frames.Faults.{is_data_pin}
use Rattle.ht_net.specs.Circuit.Netlist.{no_net}
use Rattle.ht_relevant.specs.Distances.{DistanceState, HasGrown, number_of}
use Rattle.ht_relevant.proofs.DistanceLaws.{grown_same, grown_more}

-- the number of net k of a list
abbrev pub net_at : List NetId → ℕ → ℕ
net_at nets k = (get_or nets k no_net).0

-- output k shows a difference where its net x is in reach
abbrev pub output_shown : DistanceState → ℕ → ℕ → Type 0
output_shown away k x = number_of away x < away.frames

-- the next state of flip-flop k shows one where it counts, and its data net x is in reach or its data pin is stuck
abbrev pub state_shown : DistanceState → Site → List Bool → ℕ → ℕ → Type 0
state_shown away site counted k x =
    (get_or counted k false ≡ true) × (output_shown away k x ⊎ (is_data_pin site k ≡ true))

-- the first n nets of these have the number of the distance at most, where it was asked for
pub record HavePut (s t : DistanceState) (net : ℕ → ℕ) (when : ℕ → ℕ → Type 0) (n : ℕ) : Type 0 where
  pub grown : HasGrown s t
  pub put : (k : ℕ) → k < n → when k (net k) → number_of t (net k) ≤ t.distance

-- a net that was read is one of those that have a number
pub still_inside : {s t : DistanceState} {count x y : ℕ} → length s.numbers ≡ count → HasGrown s t → x ≡ y → y < count
    → x < length t.numbers
still_inside count grown is known = let more = grown.lower.count in omega (arith, count, more, is, known)

module _ (s : DistanceState) (net : ℕ → ℕ) (when : ℕ → ℕ → Type 0) where
  -- before the first net is gone through no number is to be put
  pub none_put : HavePut s s net when 0
  none_put = record { grown = grown_same s; put = λ k less is. absurd (omega (arith, less)) }

  -- one more net, that was read
  pub one_more_put : (t u : DistanceState) (n x : ℕ) → HavePut s t net when n → HasGrown t u → x ≡ net n
      → (when n x → number_of u x ≤ u.distance) → HavePut s u net when (n + 1)
  one_more_put t u n x h grown at here = record {
    grown = grown_more s t u h.grown grown;
    put = λ k less is. elim (eqb_tells k n) [
      | inl e ↦
          let asked : when n x = subst (when n) (sym at) (subst (λ (m : ℕ). when m (net m)) e.1 is) in
          subst (λ (m : ℕ). number_of u (net m) ≤ u.distance) (sym e.1)
          (subst (λ (y : ℕ). number_of u y ≤ u.distance) at (here asked))
      | inr e ↦
          let ne : k ≢ n = e.1 in
          let a = h.put k (omega (arith, less, ne)) is in
          let b = grown.lower.lower (net k) in
          let d = grown.distance in
          omega (arith, a, b, d)
    ];
  }
