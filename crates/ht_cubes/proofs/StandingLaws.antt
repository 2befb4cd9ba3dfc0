-- How a clause stands, literal by literal.
use Rattle.std.proofs.Common.{◌≡◌, ◌<◌, ◌+◌, ℕ, suc, zero, List, [], ◌∷◌, ◌++◌, length, get_or, take, Option, Some, None, Bool, true, false, not, refl, sym, ◌∙◌, ap, subst, arith, inl, inr, ◌⊎◌}
use mathlib.Core.Bool.{beq, ◌&&◌}
use lib.Dec.{eqb}
use Rattle.std.proofs.lemmas.Bool.{and_parts, and_from, not-false, eqb-true, eq-eqb, true≢false}
use Rattle.std.specs.List.{Contains}
use Rattle.std.proofs.lemmas.List.{take_more}
use Rattle.std.proofs.lemmas.List.Elements.{All-nil, All-push, All-weaker, Contains-append_left, Contains-push, Contains-get_or}
use Rattle.ht_cubes.specs.declared.signed_var.SignedVar.{SignedVar}
use Rattle.ht_cubes.specs.Values.{IsFalseIn, IsOpen, StandsSo}

-- all of an empty clause is false
pub stands_none : (values : List (Option Bool)) → StandsSo values [] None
unfolding StandsSo
stands_none values = All-nil (IsFalseIn values)

false_push : (values : List (Option Bool)) (front : List SignedVar) (l : SignedVar) (left : Option SignedVar)
    → StandsSo values front left → IsFalseIn values l → StandsSo values (front ++ l ∷ []) left
unfolding StandsSo
false_push values front l None so is = All-push (IsFalseIn values) front l so is
false_push values front l (Some m) so is = (
  Contains-append_left front (l ∷ []) m so.0,
  so.1,
  All-push (λ (other : SignedVar). (other ≡ m) ⊎ IsFalseIn values other) front l so.2 (inr is),
)

left_push : (values : List (Option Bool)) (front : List SignedVar) (l : SignedVar)
    → StandsSo values front None → get_or values l.variable None ≡ None → StandsSo values (front ++ l ∷ []) (Some l)
unfolding StandsSo
left_push values front l so is = (
  Contains-push front l,
  is,
  All-push (λ (other : SignedVar). (other ≡ l) ⊎ IsFalseIn values other) front l
      (All-weaker (IsFalseIn values) (λ (other : SignedVar). (other ≡ l) ⊎ IsFalseIn values other) (λ x h. inr h) front so)
      (inl refl),
)

same_push : (values : List (Option Bool)) (front : List SignedVar) (l m : SignedVar)
    → StandsSo values front (Some m) → m ≡ l → StandsSo values (front ++ l ∷ []) (Some m)
unfolding StandsSo
same_push values front l m so is = (
  Contains-append_left front (l ∷ []) m so.0,
  so.1,
  All-push (λ (other : SignedVar). (other ≡ m) ⊎ IsFalseIn values other) front l so.2 (inl (sym is)),
)

-- a bit that isn't another is its complement
pub other_value : (v b : Bool) → beq v b ≡ false → v ≡ not b
other_value true true h = cc
other_value true false h = refl
other_value false true h = refl
other_value false false h = cc

-- two bits that the test finds the same are the same
pub same_bit : (a b : Bool) → beq a b ≡ true → a ≡ b
same_bit true true h = refl
same_bit true false h = cc
same_bit false true h = cc
same_bit false false h = refl

-- literals that the test finds the same
pub same_literal : (m l : SignedVar) → false ≡ not (eqb m.variable l.variable && beq m.value l.value) → m ≡ l
same_literal m l h =
    let parts = and_parts (eqb m.variable l.variable) (beq m.value l.value) (not-false _ (sym h)) in
    let here : m.variable ≡ l.variable = eqb-true m.variable l.variable parts.0 in
    let there : m.value ≡ l.value = same_bit m.value l.value parts.1 in
    (λ k. record { variable = here k; value = there k })

module _ (values : List (Option Bool)) (clause : List SignedVar) (i : ℕ) (d : SignedVar) (inside : i < length clause) where
  one_more : (left : Option SignedVar) → StandsSo values (take i clause ++ get_or clause i d ∷ []) left
      → StandsSo values (take (i + 1) clause) left
  one_more left so = let P : List SignedVar → Type 0 = λ front. StandsSo values front left in
      subst P (sym (take_more clause i d inside)) so

  -- where the next of a clause is false, one more of the clause stands as those before
  pub stands_false : (left new : Option SignedVar) (v : Bool) → StandsSo values (take i clause) left
      → get_or values (get_or clause i d).variable None ≡ Some v → beq v (get_or clause i d).value ≡ false
      → new ≡ left → StandsSo values (take (i + 1) clause) new
  stands_false left new v so at differs is =
      let P : Option SignedVar → Type 0 = λ l. StandsSo values (take (i + 1) clause) l in
      subst P (sym is) (one_more left (false_push values (take i clause) (get_or clause i d) left so
      (at ∙ ap Some (other_value v (get_or clause i d).value differs))))

  -- where all so far is false and the next has no value, one more of the clause leaves that next one
  pub stands_left : (left new : Option SignedVar) → StandsSo values (take i clause) left → left ≡ None
      → get_or values (get_or clause i d).variable None ≡ None
      → new ≡ Some (get_or clause i d) → StandsSo values (take (i + 1) clause) new
  stands_left left new so none at is =
      let Q : Option SignedVar → Type 0 = λ l. StandsSo values (take i clause) l in
      let P : Option SignedVar → Type 0 = λ l. StandsSo values (take (i + 1) clause) l in
      subst P (sym is) (one_more (Some (get_or clause i d))
      (left_push values (take i clause) (get_or clause i d) (subst Q none so) at))

  -- where those so far leave one and the next is the same, one more of the clause leaves it still
  pub stands_same : (left new : Option SignedVar) (m : SignedVar) → StandsSo values (take i clause) left → left ≡ Some m
      → m ≡ get_or clause i d → new ≡ Some m → StandsSo values (take (i + 1) clause) new
  stands_same left new m so one same is =
      let Q : Option SignedVar → Type 0 = λ l. StandsSo values (take i clause) l in
      let P : Option SignedVar → Type 0 = λ l. StandsSo values (take (i + 1) clause) l in
      subst P (sym is) (one_more (Some m)
      (same_push values (take i clause) (get_or clause i d) m (subst Q one so) same))

-- ---- clauses that are open

-- an element of the first n of a list is one of the list
pub contains_take : {X : Type 0} (xs : List X) (n : ℕ) (x : X) → Contains (take n xs) x → Contains xs x
contains_take {X} xs n x h = at xs n h.0 h.1 h.2
  where
    at : (ys : List X) (m k : ℕ) → k < length (take m ys) → get_or (take m ys) k x ≡ x → Contains ys x
    at [] zero k l e = absurd (omega arith)
    at [] (suc m) k l e = absurd (omega arith)
    at (y ∷ ys) zero k l e = absurd (omega arith)
    at (y ∷ ys) (suc m) zero l e = (0, omega arith, e)
    at (y ∷ ys) (suc m) (suc k) l e =
        let rest = at ys m k (omega arith) e in (suc rest.0, omega (arith, rest.1), rest.2)

-- what stands in a clause
stands_in : (values : List (Option Bool)) (clause : List SignedVar) (i : ℕ) (m : SignedVar)
    → StandsSo values (take i clause) (Some m) → Contains clause m × (get_or values m.variable None ≡ None)
unfolding StandsSo
stands_in values clause i m so = (contains_take clause i m so.0, so.1)

-- a clause in which one is true is open
pub open_true : (values : List (Option Bool)) (clause : List SignedVar) (i : ℕ) (d : SignedVar) (v : Bool)
    → i < length clause → get_or values (get_or clause i d).variable None ≡ Some v
    → beq v (get_or clause i d).value ≡ true → IsOpen values clause
open_true values clause i d v inside at same =
    inl (get_or clause i d, Contains-get_or clause i d inside, at ∙ ap Some (same_bit v (get_or clause i d).value same))

-- a clause of which those so far leave one, and the next is another without a value, is open
pub open_two : (values : List (Option Bool)) (clause : List SignedVar) (i : ℕ) (d m : SignedVar) (left : Option SignedVar)
    → i < length clause → StandsSo values (take i clause) left → left ≡ Some m
    → get_or values (get_or clause i d).variable None ≡ None → ¬ (m ≡ get_or clause i d) → IsOpen values clause
open_two values clause i d m left inside so one at differ =
    let Q : Option SignedVar → Type 0 = λ l. StandsSo values (take i clause) l in
    let found = stands_in values clause i m (subst Q one so) in
    inr (m, get_or clause i d, found.0, Contains-get_or clause i d inside, differ, found.1, at)

-- literals that the test finds different
pub other_literal : (m l : SignedVar) → true ≡ not (eqb m.variable l.variable && beq m.value l.value) → ¬ (m ≡ l)
other_literal m l h e =
    let both : (eqb m.variable l.variable && beq m.value l.value) ≡ true =
    and_from (eqb m.variable l.variable) (beq m.value l.value) (eq-eqb m.variable l.variable (ap (λ (x : SignedVar). x.variable) e))
    (bits m.value l.value (ap (λ (x : SignedVar). x.value) e)) in
    true≢false (h ∙ ap not both)
  where
    bits : (a b : Bool) → a ≡ b → beq a b ≡ true
    bits true true e = refl
    bits true false e = cc
    bits false true e = cc
    bits false false e = refl
