-- Results of which the first is asked for its error alone.
use Rattle.std.proofs.Common.{◌≡◌, IfOk, Result, Ok, Err, sym, subst}
use Rattle.std.specs.Result.{result_and}

-- what holds of the second of two results holds of what comes of both
pub second_of_two : {T U E : Type 0} (r : Result T E) (s both : Result U E) (P : U → Type 0) → both ≡ result_and r s
    → IfOk s P → IfOk both P
second_of_two {T} {U} {E} (Ok x) s both P is h = subst (λ (b : Result U E). IfOk b P) (sym is) h
second_of_two {T} {U} {E} (Err e) s both P is h = subst (λ (b : Result U E). IfOk b P) (sym is) tt
