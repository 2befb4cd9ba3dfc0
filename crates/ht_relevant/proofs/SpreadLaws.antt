-- A search in breadth goes on net by net and frame by frame.
use Rattle.std.proofs.Common.{◌≡◌, ◌∙◌, ◌<◌, ◌≤◌, ◌+◌, ℕ, List, [], ◌∷◌, ◌++◌, length, refl, sym, ap, subst, arith}
use Rattle.std.proofs.lemmas.List.{length_push}
use Rattle.ht_net.specs.Circuit.Netlist.{Netlist}
use Rattle.ht_relevant.specs.declared.way.Way.{Way}
use Rattle.ht_relevant.specs.Distances.{DistanceState, AreFollowed, HasGrown, IsFollowed, IsLower, number_of, left_to_do}
use Rattle.ht_relevant.proofs.DistanceLaws.{lower_more, popped_followed, next_followed}

-- numbers that have not risen still have not, whatever is to be followed
lower_grown : (first s t : DistanceState) (here next : List ℕ) → IsLower first (record s { here = here; next = next })
    → HasGrown s t → IsLower first t
lower_grown first s t here next k grown = lower_more first (record s { here = here; next = next }) t k (record {
  frames = grown.lower.frames;
  count = grown.lower.count;
  lower = grown.lower.lower;
})

-- the nets of one distance, some of which are followed
pub record IsSpreading (c : Netlist) (way : Way) (first s : DistanceState) : Type 0 where
  pub lower : IsLower first s
  pub distance : s.distance ≡ first.distance
  pub followed : AreFollowed c way s.distance s

module _ (c : Netlist) (way : Way) (first before s t : DistanceState) (x : ℕ)
    (was : before ≡ record s { here = s.here ++ x ∷ [] }) (grown : HasGrown s t) where
  -- a search in breadth goes on after one net of its distance is followed
  pub one_followed : number_of s x ≡ s.distance → IsFollowed c way t x → IsSpreading c way first before
      → IsSpreading c way first t
  one_followed at followed h =
      let k : IsSpreading c way first (record s { here = s.here ++ x ∷ [] }) = subst (IsSpreading c way first) was h in
      record {
        lower = lower_grown first s t (s.here ++ x ∷ []) s.next k.lower grown;
        distance = grown.distance ∙ k.distance;
        followed = popped_followed c way s t x at grown followed k.followed;
      }

  -- one net that was followed leaves less to do
  pub one_left : left_to_do t < left_to_do before
  one_left =
      let e : left_to_do before ≡ left_to_do (record s { here = s.here ++ x ∷ [] }) = ap left_to_do was in
      let more = length_push s.here x in
      let same = grown.left in
      omega (arith, e, more, same)

-- the nets one frame on, some of which have got their number
pub record IsGoingOn (first s : DistanceState) : Type 0 where
  pub lower : IsLower first s
  pub distance : s.distance ≡ first.distance + 1
  pub followed : (c : Netlist) (way : Way) → AreFollowed c way first.distance first → AreFollowed c way first.distance s

-- a search in breadth goes on to the next distance
pub gone_on : (first s : DistanceState) → s ≡ record first { distance = first.distance + 1 } → IsGoingOn first s
gone_on first s e = subst (IsGoingOn first) (sym e) (record {
  lower = record { frames = refl; count = refl; lower = λ x. omega arith };
  distance = refl;
  followed = λ c way h. record { within = h.within; on = h.on };
})

module _ (first before s t : DistanceState) (x : ℕ) (was : before ≡ record s { next = s.next ++ x ∷ [] })
    (grown : HasGrown s t) where
  -- a search in breadth goes on after one net a frame on has its number
  pub one_got : number_of t x ≤ t.distance → IsGoingOn first before → IsGoingOn first t
  one_got put h =
      let k : IsGoingOn first (record s { next = s.next ++ x ∷ [] }) = subst (IsGoingOn first) was h in
      record {
        lower = lower_grown first s t s.here (s.next ++ x ∷ []) k.lower grown;
        distance = grown.distance ∙ k.distance;
        followed = λ c way f. next_followed c way first.distance s t x k.distance grown put (k.followed c way f);
      }

  -- one net that has its number leaves fewer nets that are to get one a frame on
  pub one_less : t.next ≡ s.next → length t.next < length before.next
  one_less same =
      let e = ap (λ (d : DistanceState). length d.next) was in
      let more = length_push s.next x in
      let n = ap (λ (l : List ℕ). length l) same in
      omega (arith, e, more, n)
