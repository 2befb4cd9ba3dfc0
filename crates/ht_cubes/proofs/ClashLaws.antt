-- What values say of facts, and how clauses that hints name stand.
use Rattle.std.proofs.Common.{◌≡◌, ◌<◌, ◌+◌, ℕ, suc, zero, List, [], ◌∷◌, ◌++◌, length, get_or, set, map, take, replicate, Option, Some, None, Bool, true, false, not, refl, sym, ◌∙◌, ap, subst, arith, inl, inr, ◌⊎◌}
use Rattle.std.specs.Prelude.{◌↔◌}
use Rattle.std.specs.List.{Contains}
use Rattle.std.proofs.lemmas.List.{get_or-set_same, get_or-set_other, take_more, map-append}
use Rattle.std.proofs.lemmas.Bool.{cases_eq}
use Rattle.std.proofs.lemmas.List.Elements.{All-contains, Contains-push, Contains-push_cases, Contains-append_left}
use Rattle.ht_cubes.specs.declared.signed_var.SignedVar.{SignedVar}
use Rattle.ht_cubes.specs.Formula.{complement}
use Rattle.ht_net.proofs.KeptLaws.{contains_map}
use Rattle.ht_net.proofs.SilenceLaws.{not_itself}
use Rattle.ht_cubes.specs.Steps.{IsFalse, Leaves, Fails, IsNumber, Clash, HasNoOpposites, clause_at}
use Rattle.ht_cubes.specs.Values.{IsTrueIn, IsFalseIn, SayFacts, StandsSo, IsOpen}
use Rattle.ht_cubes.proofs.MeaningLaws.{mapped_from}
use Rattle.ht_cubes.proofs.StandingLaws.{contains_take}

twice : (b : Bool) → not (not b) ≡ b
twice true = refl
twice false = refl

-- the complement of a complement is the signed variable itself
pub complement_twice : (l : SignedVar) → complement (complement l) ≡ l
complement_twice l = (λ k. record { variable = l.variable; value = twice l.value k })

-- one more fact, of a variable that has no value
pub facts_more : (facts : List SignedVar) (values : List (Option Bool)) (r : SignedVar) → SayFacts facts values
    → r.variable < length values → get_or values r.variable None ≡ None
    → SayFacts (facts ++ r ∷ []) (set values r.variable (Some r.value))
facts_more facts values r say inside none l = (there, back)
  where
    there : Contains (facts ++ r ∷ []) l → IsTrueIn (set values r.variable (Some r.value)) l
    there has = elim (Contains-push_cases facts r l has) [
      | inl old ↦
          let was = (say l).0 old in
          let other : l.variable ≡ r.variable → ⊥ = λ e.
          let P : ℕ → Type 0 = λ n. get_or values n None ≡ Some l.value in
          let both : get_or values r.variable None ≡ Some l.value = subst P e was in
          none_some (sym none ∙ both) in
          get_or-set_other values r.variable l.variable (Some r.value) None other ∙ was
      | inr same ↦
          let P : SignedVar → Type 0 = λ m. IsTrueIn (set values r.variable (Some r.value)) m in
          subst P same (get_or-set_same values r.variable (Some r.value) None inside)
    ]
      where
        none_some : {v : Bool} → None ≡ Some v → ⊥
        none_some e = cc

    back : IsTrueIn (set values r.variable (Some r.value)) l → Contains (facts ++ r ∷ []) l
    back is = elim (cases_eq l.variable r.variable) [
      | inl same ↦
          let P : ℕ → Type 0 = λ n. get_or (set values r.variable (Some r.value)) n None ≡ Some l.value in
          let at : get_or (set values r.variable (Some r.value)) r.variable None ≡ Some l.value = subst P same is in
          let now : Some r.value ≡ Some l.value =
          sym (get_or-set_same values r.variable (Some r.value) None inside) ∙ at in
          let value : r.value ≡ l.value = cc in
          let Q : SignedVar → Type 0 = λ m. Contains (facts ++ r ∷ []) m in
          subst Q (λ k. record { variable = sym same k; value = value k }) (Contains-push facts r)
      | inr other ↦ Contains-append_left facts (r ∷ []) l
          ((say l).1 (sym (get_or-set_other values r.variable l.variable (Some r.value) None other) ∙ is))
    ]

-- a fact once more
pub facts_again : (facts : List SignedVar) (values : List (Option Bool)) (r : SignedVar) → SayFacts facts values
    → IsTrueIn values r → SayFacts (facts ++ r ∷ []) values
facts_again facts values r say is l = (there, λ h. Contains-append_left facts (r ∷ []) l ((say l).1 h))
  where
    there : Contains (facts ++ r ∷ []) l → IsTrueIn values l
    there has = elim (Contains-push_cases facts r l has) [
      | inl old ↦ (say l).0 old
      | inr same ↦ let P : SignedVar → Type 0 = λ m. IsTrueIn values m in subst P same is
    ]

module _ (facts : List SignedVar) (values : List (Option Bool)) (say : SayFacts facts values) where
  false_to : (l : SignedVar) → IsFalseIn values l → IsFalse facts l
  false_to l h = (say (complement l)).1 h

  false_from : (l : SignedVar) → IsFalse facts l → IsFalseIn values l
  false_from l h = (say (complement l)).0 h

  -- all of the clause is false
  pub fails_to : (clause : List SignedVar) → StandsSo values clause None → Fails facts clause
  unfolding StandsSo
  fails_to clause so k d inside = false_to (get_or clause k d) (so k d inside)

  none_some : {v : Bool} → None ≡ Some v → ⊥
  none_some e = cc

  -- all but one
  pub leaves_to : (clause : List SignedVar) (l : SignedVar) → StandsSo values clause (Some l) → Leaves facts clause l
  unfolding StandsSo
  leaves_to clause l so = record {
    inside = so.0;
    not_true = λ h. none_some (sym so.1 ∙ (say l).0 h);
    not_false = λ h. none_some (sym so.1 ∙ false_from l h);
    others = λ k d inside. elim (so.2 k d inside) [ inl same ↦ inl same | inr wrong ↦ inr (false_to (get_or clause k d) wrong) ];
  }

  -- a clause that leaves one doesn't fail, and leaves no other
  left_fails : (clause : List SignedVar) (l : SignedVar) → Leaves facts clause l → Fails facts clause → ⊥
  left_fails clause l leaves fails = leaves.not_false (All-contains (IsFalse facts) clause l fails leaves.inside)

  left_once : (clause : List SignedVar) (l m : SignedVar) → Leaves facts clause l → Leaves facts clause m → m ≡ l
  left_once clause l m one two =
      elim (All-contains (λ other. (other ≡ l) ⊎ IsFalse facts other) clause m one.others two.inside) [
        | inl same ↦ same
        | inr wrong ↦ absurd (two.not_false wrong)
      ]

  -- an open clause doesn't fail, and leaves none
  open_fails : (clause : List SignedVar) → IsOpen values clause → Fails facts clause → ⊥
  open_fails clause (inl (l, inside, is)) fails =
      let wrong = false_from l (All-contains (IsFalse facts) clause l fails inside) in
      not_itself l.value (let e : Some l.value ≡ Some (not l.value) = sym is ∙ wrong in cc)
  open_fails clause (inr (l, m, inside, other, differ, one, two)) fails =
      none_some (sym one ∙ false_from l (All-contains (IsFalse facts) clause l fails inside))

  open_leaves : (clause : List SignedVar) (n : SignedVar) → IsOpen values clause → Leaves facts clause n → ⊥
  open_leaves clause n (inl (l, inside, is)) leaves =
      elim (All-contains (λ other. (other ≡ n) ⊎ IsFalse facts other) clause l leaves.others inside) [
        | inl same ↦ let P : SignedVar → Type 0 = λ k. Contains facts k in
            leaves.not_true (subst P same ((say l).1 is))
        | inr wrong ↦ not_itself l.value (let e : Some l.value ≡ Some (not l.value) = sym is ∙ false_from l wrong in cc)
      ]
  open_leaves clause n (inr (l, m, inside, other, differ, one, two)) leaves =
      differ (is l inside one ∙ sym (is m other two))
    where
      is : (k : SignedVar) → Contains clause k → get_or values k.variable None ≡ None → k ≡ n
      is k has none = elim (All-contains (λ other. (other ≡ n) ⊎ IsFalse facts other) clause k leaves.others has) [
        | inl same ↦ same
        | inr wrong ↦ absurd (none_some (sym none ∙ false_from k wrong))
      ]

  module _ (clauses : List (List SignedVar)) (n : ℕ) (rest : List ℕ) where
    -- a hint whose clause leaves one goes on with it
    pub clash_left : (l : SignedVar) → IsNumber clauses n → Leaves facts (clause_at clauses n) l
        → Clash clauses facts (n ∷ rest) ↔ Clash clauses (facts ++ l ∷ []) rest
    clash_left l known leaves = (there rest, back rest)
      where
        there : (rest : List ℕ) → Clash clauses facts (n ∷ rest) → Clash clauses (facts ++ l ∷ []) rest
        there [] h = absurd (left_fails (clause_at clauses n) l leaves h.1)
        there (m ∷ hints) h =
            let P : SignedVar → Type 0 = λ k. Clash clauses (facts ++ k ∷ []) (m ∷ hints) in
            subst P (left_once (clause_at clauses n) l h.1.0 leaves h.1.1) h.1.2

        back : (rest : List ℕ) → Clash clauses (facts ++ l ∷ []) rest → Clash clauses facts (n ∷ rest)
        back [] h = absurd h
        back (m ∷ hints) h = (known, (l, leaves, h))

    -- a hint whose clause is open is the end
    pub clash_open : IsOpen values (clause_at clauses n) → Clash clauses facts (n ∷ rest) → ⊥
    clash_open free = at rest
      where
        at : (rest : List ℕ) → Clash clauses facts (n ∷ rest) → ⊥
        at [] h = open_fails (clause_at clauses n) free h.1
        at (m ∷ hints) h = open_leaves (clause_at clauses n) h.1.0 free h.1.1

    -- a hint whose clause fails is the last, and no other
    pub clash_failed : IsNumber clauses n → Fails facts (clause_at clauses n)
        → Clash clauses facts (n ∷ rest) ↔ (rest ≡ [])
    clash_failed known fails = (there rest, back rest)
      where
        there : (rest : List ℕ) → Clash clauses facts (n ∷ rest) → rest ≡ []
        there [] h = refl
        there (m ∷ hints) h = absurd (left_fails (clause_at clauses n) h.1.0 h.1.1 fails)

        back : (rest : List ℕ) → rest ≡ [] → Clash clauses facts (n ∷ rest)
        back [] e = (known, fails)
        back (m ∷ hints) e = cc

    -- a hint that is no number is the end
    pub clash_known : Clash clauses facts (n ∷ rest) → IsNumber clauses n
    clash_known = at rest
      where
        at : (rest : List ℕ) → Clash clauses facts (n ∷ rest) → IsNumber clauses n
        at [] h = h.0
        at (m ∷ hints) h = h.0

-- ---- a clause of which all is made false

mapped_back : (clause : List SignedVar) (l : SignedVar) → Contains (map complement clause) l
    → Contains clause (complement l)
mapped_back clause l h =
    let (m, inside, is) = mapped_from complement clause l h in
    let P : SignedVar → Type 0 = λ k. Contains clause k in
    subst P (sym (complement_twice m) ∙ ap complement is) inside

-- where the first i of a clause are made false and one of the clause is true, the clause has opposites
pub deny_opposites : (clause : List SignedVar) (i : ℕ) (values : List (Option Bool)) (l : SignedVar)
    → SayFacts (map complement (take i clause)) values → IsTrueIn values l → Contains clause l → HasNoOpposites clause → ⊥
deny_opposites clause i values l say is inside plain =
    plain l inside (contains_take clause i (complement l) (mapped_back (take i clause) l ((say l).1 is)))

-- a clause of which all is made false has no opposites
pub deny_plain : (clause : List SignedVar) (values : List (Option Bool)) → SayFacts (map complement clause) values
    → HasNoOpposites clause
deny_plain clause values say l one two =
    let here : IsTrueIn values (complement l) = (say (complement l)).0 (contains_map complement clause l one) in
    let there : IsTrueIn values (complement (complement l)) =
    (say (complement (complement l))).0 (contains_map complement clause (complement l) two) in
    not_itself (not l.value) (let e : Some (not l.value) ≡ Some (not (not l.value)) = sym here ∙ there in cc)

deny_take : (clause : List SignedVar) (i : ℕ) (d : SignedVar) → i < length clause
    → map complement (take i clause) ++ complement (get_or clause i d) ∷ [] ≡ map complement (take (i + 1) clause)
deny_take clause i d inside = sym (ap (map complement) (take_more clause i d inside)
    ∙ map-append complement (take i clause) (get_or clause i d ∷ []))

-- where the next of a clause is false, one more of the clause is made false with the same values
pub deny_again : (clause : List SignedVar) (i : ℕ) (d : SignedVar) (values : List (Option Bool)) → i < length clause
    → SayFacts (map complement (take i clause)) values → IsFalseIn values (get_or clause i d)
    → SayFacts (map complement (take (i + 1) clause)) values
deny_again clause i d values inside say is =
    let P : List SignedVar → Type 0 = λ facts. SayFacts facts values in
    subst P (deny_take clause i d inside)
    (facts_again (map complement (take i clause)) values (complement (get_or clause i d)) say is)

-- where the next of a clause has no value, its opposite bit makes one more of the clause false
pub deny_more : (clause : List SignedVar) (i : ℕ) (d : SignedVar) (values : List (Option Bool)) → i < length clause
    → SayFacts (map complement (take i clause)) values → (get_or clause i d).variable < length values
    → get_or values (get_or clause i d).variable None ≡ None
    → SayFacts (map complement (take (i + 1) clause))
    (set values (get_or clause i d).variable (Some (not (get_or clause i d).value)))
deny_more clause i d values inside say low none =
    let P : List SignedVar → Type 0 =
    λ facts. SayFacts facts (set values (get_or clause i d).variable (Some (not (get_or clause i d).value))) in
    subst P (deny_take clause i d inside)
    (facts_more (map complement (take i clause)) values (complement (get_or clause i d)) say low none)

-- no facts where no variable has a value
pub none_said : (n : ℕ) → SayFacts [] (replicate n None)
none_said n l = ((λ h. absurd (omega (arith, h.1))), (λ is. absurd (at n l.variable is)))
  where
    at : (n v : ℕ) → get_or (replicate n None) v None ≡ Some l.value → ⊥
    at zero v e = cc
    at (suc n) zero e = cc
    at (suc n) (suc v) e = at n v e
