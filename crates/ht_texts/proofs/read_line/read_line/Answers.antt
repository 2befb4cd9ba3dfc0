use Rattle.std.proofs.Common.{◌≡◌, ◌+◌, ◌-◌, ℕ, subst, arith}
use Rattle.ht_texts.specs.ReportLines.{FindsItem}
use Rattle.ht_texts.proofs.ItemLaws.{no_head}
use Rattle.ht_texts.proofs.read_line.read_line.Goals as goal

pub returns-in_err-budget : goal.returns-in_err-budget
returns-in_err-budget c =
    rw c.from_residual.ensures
    (no_head c.args.circuit.now c.args.classes.now c.args.n c.args.sums c.args.line.now c.if-n-eq0.true
    c.in_err-budget.ensures)

pub returns-then-n-from : goal.returns-then-n-from
returns-then-n-from c =
    let n = c.args.n in
    let next : n - 1 + 1 ≡ n = omega arith in
    subst (λ (k : ℕ). FindsItem c.args.circuit.now c.args.classes.now k c.args.sums c.args.line.now c.read_fault.result)
    next (c.read_fault.ensures c.args.sums)
