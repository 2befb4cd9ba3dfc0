use Rattle.std.proofs.Common.{◌≡◌, sym, ◌∙◌, arith}
use Rattle.std.proofs.lemmas.Fmt.{decimal_injective}
use Rattle.ht_texts.proofs.read_head.read_budget.Goals as goal

pub returns-then-budget-eq0 : goal.returns-then-budget-eq0
returns-then-budget-eq0 c = λ budget is e.
    let zero : c.in_ok-budget.budget ≡ budget = decimal_injective c.in_ok-budget.budget budget
    (omega (arith, c.in_ok-budget.ensures.bound)) (omega (arith, is.1)) (sym c.in_ok-budget.ensures.digits ∙ e) in
    omega (arith, zero, is.0)
