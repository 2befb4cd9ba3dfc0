-- The sets of a family, joined with others one by one.
use Rattle.std.proofs.Common.{IsTrue, false, ◌≡◌, ◌≢◌, ◌⊎◌, ◌<◌, ◌≤◌, ◌+◌, ◌*◌, ℕ, suc, List, [], ◌∷◌, ◌++◌, length, get_or, set, sym, ◌∙◌, ap, inl, inr, arith, subst, get_or-set_other, get_or-set_same}
use Rattle.std.proofs.lemmas.Bool.Decides.{eqb_tells}
use Rattle.std.proofs.lemmas.List.{length-set}
use Rattle.std.proofs.lemmas.List.Sums.{sum_by-cons, sum_by-set}
use Rattle.ht_pairs.specs.Pairs.{Pair, IsMember}
use Rattle.ht_pairs.specs.Included.{Includes, joined_set}
use Rattle.ht_pairs.proofs.SetLaws.{member_right, set_of_holds}
use Rattle.ht_tree.specs.Record.ClosedFamilies.{IncludesEach, Family}
use Rattle.ht_families.specs.FamilyFrames.{size_of}

-- the sets below j are joined, and the others are as they were
pub record AreJoined (before other now : Family) (j : ℕ) : Type 0 where
  pub long : length now ≡ length before
  pub done : (k : ℕ) → k < j → get_or now k [] ≡ joined_set (get_or before k []) (get_or other k [])
  pub rest : (k : ℕ) → j ≤ k → get_or now k [] ≡ get_or before k []
  pub few : (k : ℕ) → k < j → length (get_or now k []) ≤ 9
  pub least : size_of before ≤ size_of now
  pub grows : ((k : ℕ) → k < j → Includes (get_or before k []) (get_or other k [])) ⊎ (size_of before < size_of now)

joined_within : (s t : List Pair) → joined_set s t ≡ s → Includes s t
joined_within s t e p i =
    subst (λ (l : List Pair). IsMember p l) e ((set_of_holds (s ++ t) p).1 (member_right p s t i))

-- once the set at index j is joined too, the sets below j + 1 are
pub one_joined : (before other now : Family) (j : ℕ) (v : List Pair) → AreJoined before other now j
    → j < length before → v ≡ joined_set (get_or now j []) (get_or other j [])
    → (v ≡ get_or now j []) ⊎ (length (get_or now j []) < length v) → length v ≤ 9
    → AreJoined before other (set now j v) (j + 1)
one_joined before other now j v h inside is more nine =
    let n = h.long in
    let here : get_or (set now j v) j [] ≡ v = get_or-set_same now j v [] (omega (arith, n)) in
    let there : (k : ℕ) → k ≢ j → get_or (set now j v) k [] ≡ get_or now k [] =
    λ k ne. get_or-set_other now j k v [] ne in
    let was : get_or now j [] ≡ get_or before j [] = h.rest j (omega arith) in
    let joined : v ≡ joined_set (get_or before j []) (get_or other j []) =
    is ∙ ap (λ (s : List Pair). joined_set s (get_or other j [])) was in
    let sums = sum_by-set (λ (s : List Pair). length s) now j v [] (omega (arith, n)) in
    let m = h.least in
    record {
      long = length-set now j v ∙ n;
      done = λ k l. elim (eqb_tells k j) [
        | inl e ↦
            subst (λ (i : ℕ). get_or (set now j v) i [] ≡ joined_set (get_or before i []) (get_or other i [])) (sym e.1)
            (here ∙ joined)
        | inr e ↦ let ne = e.1 in there k ne ∙ h.done k (omega (arith, ne))
      ];
      rest = λ k l. there k (let ne : k ≢ j = omega arith in ne) ∙ h.rest k (omega arith);
      few = λ k l. elim (eqb_tells k j) [
        | inl e ↦
            subst (λ (i : ℕ). length (get_or (set now j v) i []) ≤ 9) (sym e.1)
            (subst (λ (s : List Pair). length s ≤ 9) (sym here) nine)
        | inr e ↦
            let ne = e.1 in
            subst (λ (s : List Pair). length s ≤ 9) (sym (there k ne)) (h.few k (omega (arith, ne)))
      ];
      least = elim more [
        | inl e ↦ let d = ap length e in omega (arith, sums, d, m)
        | inr l ↦ omega (arith, sums, l, m)
      ];
      grows = elim more [
        | inl e ↦
            let d = ap length e in
            elim h.grows [
              | inl all ↦ inl (λ k l. elim (eqb_tells k j) [
                | inl at ↦
                    subst (λ (i : ℕ). Includes (get_or before i []) (get_or other i [])) (sym at.1)
                    (joined_within (get_or before j []) (get_or other j []) (sym joined ∙ (e ∙ was)))
                | inr at ↦ let ne = at.1 in all k (omega (arith, ne))
              ])
              | inr g ↦ inr (omega (arith, sums, d, g))
            ]
        | inr l ↦ inr (omega (arith, sums, l, m))
      ];
    }

-- sets with at most nine pairs each have at most nine times their number in all
pub size_few : (sets : List (List Pair)) → ((k : ℕ) → k < length sets → length (get_or sets k []) ≤ 9)
    → size_of sets ≤ 9 * length sets
size_few [] h = omega arith
size_few (s ∷ sets) h =
    let first : length s ≤ 9 = h 0 (omega arith) in
    let rest : size_of sets ≤ 9 * length sets = size_few sets (λ k l. h (suc k) (omega arith)) in
    let sum : size_of (s ∷ sets) ≡ length s + size_of sets = sum_by-cons (λ (s : List Pair). length s) s sets in
    omega (arith, first, rest, sum)

-- what is read from two families at one place
pub included_at : (family other : Family) (j : ℕ) (s t : List Pair) → s ≡ get_or family j []
    → t ≡ get_or other j [] → j < length other → IncludesEach family other → Includes s t
included_at family other j s t is there inside all p i =
    subst (λ (l : List Pair). IsMember p l) (sym is)
    (all j inside p (subst (λ (l : List Pair). IsMember p l) there i))

-- where a set read from one family includes that read from another, the families' sets at the index do so
pub one_included : (family other : Family) (j : ℕ) (s t : List Pair) → s ≡ get_or family j []
    → t ≡ get_or other j [] → Includes s t → Includes (get_or family j []) (get_or other j [])
one_included family other j s t is there all p i =
    subst (λ (l : List Pair). IsMember p l) is (all p (subst (λ (l : List Pair). IsMember p l) (sym there) i))

-- the union of two sets is that of two sets equal to them
pub joined_of : (v s t s' t' : List Pair) → v ≡ joined_set s t → s ≡ s' → t ≡ t' → v ≡ joined_set s' t'
joined_of v s t s' t' e d f = e ∙ (λ i. joined_set (d i) (f i))

-- a set that equals another or is longer stays so where the other is replaced by an equal one
pub grows_of : (v s s' : List Pair) → (v ≡ s) ⊎ (length s < length v) → s ≡ s' → (v ≡ s') ⊎ (length s' < length v)
grows_of v s s' (inl e) d = inl (e ∙ d)
grows_of v s s' (inr l) d = inr (subst (λ (x : List Pair). length x < length v) d l)

-- false isn't true
pub not_true : IsTrue false → ⊥
not_true h = cc
