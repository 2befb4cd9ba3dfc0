-- What is told of a value that comes only after another call has succeeded.
use Rattle.std.proofs.Common.{◌≡◌, ◌∙◌, Result, Ok, Err, IfOk, refl, sym, subst}
use Rattle.std.specs.Prelude.{OnOk}
use Rattle.std.specs.Result.{result_and}

module _ {T U E : Type 0} where
  -- what is told of the value where the other call tells a fact
  pub value_after : (done : Result T E) (x : U) (A : Type 0) (P : U → Type 0) (r : Result U E)
      → r ≡ result_and done (Ok x) → OnOk done A → (A → P x) → IfOk r P
  value_after (Ok y) x A P r is told gives = subst (λ (s : Result U E). IfOk s P) (sym is) (gives told)
  value_after (Err e) x A P r is told gives = subst (λ (s : Result U E). IfOk s P) (sym is) tt

  -- a result after another call's is a value only where that call succeeds too
  pub both_ok : (done : Result T E) (other r : Result U E) (x : U) → r ≡ result_and done other → r ≡ Ok x
      → ((y : T) × (done ≡ Ok y)) × (other ≡ Ok x)
  both_ok (Ok y) other r x is ok = ((y, refl), sym is ∙ ok)
  both_ok (Err e) other r x is ok = let no : Err e ≡ Ok x = sym is ∙ ok in absurd (cc)
