-- When clauses are true.
use Rattle.std.proofs.Common.{◌≡◌, ◌<◌, ℕ, suc, zero, List, [], ◌∷◌, length, get_or, map, Bool, true, false, not, refl, sym, ◌∙◌, ap, arith, inl, inr}
use Rattle.std.specs.Prelude.{if◌then◌else◌}
use Rattle.std.specs.List.{Contains, All, list_any}
use Rattle.std.proofs.lemmas.List.{get_or-map, length-map}
use Rattle.std.proofs.lemmas.List.Folds.{Any-from_list_any}
use Rattle.std.proofs.lemmas.List.Elements.{Contains-get_or}
use Rattle.std.proofs.lemmas.Bool.{both_ways, cases_Bool, or_left, or_right, or_parts, not-true, not-false, not_from_false}
use Rattle.ht_cubes.specs.declared.signed_var.SignedVar.{SignedVar}
use Rattle.ht_cubes.specs.Formula.{complement, needs}

-- a signed variable under values of the variables
abbrev pub truth_of : (ℕ → Bool) → SignedVar → Bool
truth_of values l = if l.value then values l.variable else not (values l.variable)

-- something that stands in the clause is true
abbrev pub IsTrueClause : (ℕ → Bool) → List SignedVar → Type 0
IsTrueClause values clause = list_any (truth_of values) clause ≡ true

abbrev pub AreTrueClauses : (ℕ → Bool) → List (List SignedVar) → Type 0
AreTrueClauses values clauses = All (IsTrueClause values) clauses

-- an element that passes
pub any_found : {X : Type 0} (test : X → Bool) (xs : List X) → list_any test xs ≡ true
    → (x : X) × Contains xs x × (test x ≡ true)
any_found test xs h =
    let (k, x, within, at, passes) = Any-from_list_any test xs h in
    (x, (k, within, at), passes)

any_at : {X : Type 0} (test : X → Bool) (xs : List X) (k : ℕ) (x : X) → k < length xs → get_or xs k x ≡ x
    → test x ≡ true → list_any test xs ≡ true
any_at test [] k x h at passes = absurd (omega arith)
any_at test (y ∷ xs) zero x h at passes = or_left (test y) (list_any test xs) (ap test at ∙ passes)
any_at test (y ∷ xs) (suc k) x h at passes =
    or_right (test y) (list_any test xs) (any_at test xs k x (omega arith) at passes)

-- where an element of a list passes, some element passes
pub any_from : {X : Type 0} (test : X → Bool) (xs : List X) (x : X) → Contains xs x → test x ≡ true
    → list_any test xs ≡ true
any_from test xs x h passes = any_at test xs h.0 x h.1 h.2 passes

-- an element of a mapped list is that of an element
pub mapped_from : {X Y : Type 0} (f : X → Y) (xs : List X) (y : Y) → Contains (map f xs) y
    → (x : X) × Contains xs x × (f x ≡ y)
mapped_from f [] y h = absurd (omega (arith, h.1))
mapped_from {X} f (x ∷ xs) y h =
    let within : h.0 < length (x ∷ xs) = omega (arith, h.1, length-map (x ∷ xs) f) in
    let e : get_or (map f (x ∷ xs)) h.0 y ≡ f (get_or (x ∷ xs) h.0 x) = get_or-map f (x ∷ xs) h.0 x y within in
    (get_or (x ∷ xs) h.0 x, Contains-get_or (x ∷ xs) h.0 x within, sym e ∙ h.2)

either_not : (b x : Bool) → (if not b then x else not x) ≡ not (if b then x else not x)
either_not true x = refl
either_not false true = refl
either_not false false = refl

-- the complement is true just where the signed variable isn't
pub complement_truth : (values : ℕ → Bool) (l : SignedVar) → truth_of values (complement l) ≡ not (truth_of values l)
complement_truth values l = either_not l.value (values l.variable)

-- where the complement is true the signed variable is not
pub complement_fails : (values : ℕ → Bool) (l : SignedVar) → truth_of values (complement l) ≡ true
    → truth_of values l ≡ true → ⊥
complement_fails values l h k =
    both_ways (truth_of values l) (not-true (truth_of values l) (sym (complement_truth values l) ∙ h)) k

module _ (values : ℕ → Bool) where
  -- a clause by which one needs some of others
  pub needs_some : (l : SignedVar) (others : List SignedVar)
      → (truth_of values l ≡ true → list_any (truth_of values) others ≡ true)
      → IsTrueClause values (needs l others)
  needs_some l others h = elim (cases_Bool (truth_of values l)) [
    | inl holds ↦ or_right (truth_of values (complement l)) (list_any (truth_of values) others) (h holds)
    | inr fails ↦ or_left (truth_of values (complement l)) (list_any (truth_of values) others)
        (complement_truth values l ∙ not_from_false (truth_of values l) fails)
  ]

  -- a list of one signed variable has one that is true, if that one is
  pub just_one : (l : SignedVar) → truth_of values l ≡ true → list_any (truth_of values) (l ∷ []) ≡ true
  just_one l h = or_left (truth_of values l) false h

  -- what says that some isn't true fails only where all are
  pub denied_fails : (l : SignedVar) (denied : List SignedVar)
      → list_any (truth_of values) (complement l ∷ denied) ≡ false
      → (truth_of values l ≡ true) × (list_any (truth_of values) denied ≡ false)
  denied_fails l denied h =
      let parts = or_parts (truth_of values (complement l)) (list_any (truth_of values) denied) h in
      (not-false (truth_of values l) (sym (complement_truth values l) ∙ parts.0), parts.1)
