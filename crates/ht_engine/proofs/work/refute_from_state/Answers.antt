use Rattle.std.proofs.Common.{◌≡◌, ◌<◌, ◌==◌, ℕ, suc, zero, List, length, subst, sym, ◌∙◌, arith, false}
use Rattle.std.specs.List.{All}
use Rattle.std.proofs.lemmas.Bool.{true≢false}
use Rattle.ht_tree.specs.declared.clause.Clause.{Clause}
use Rattle.ht_tree.specs.Clause.Clauses.{IsClause}
use Rattle.ht_engine.proofs.work.refute_from_state.Goals as goal

is_above_zero : (n : ℕ) → (n == 0) ≡ false → 0 < n
is_above_zero zero is = absurd (true≢false is)
is_above_zero (suc n) is = omega arith

pub refute_under-requires : goal.refute_under-requires
refute_under-requires c =
    let is = c.as_slice-clauses.ensures in
    let some : 0 < length c.args.task.now.invariant.now.clauses =
    subst (λ (l : List Clause). 0 < length l) is
    (is_above_zero (length c.as_slice-clauses.result.now) (sym c.is_empty.ensures ∙ c.if-is_empty.false)) in
    subst (All (IsClause c.args.bases.now.circuit)) (sym is) (c.requires some).known
