use Rattle.std.proofs.Common.{◌≡◌, rules}
use Rattle.std.proofs.lemmas.Result.{IfOk-weaker}
use Rattle.ht_check.proofs.entries.passes.Goals as goal

pub returns-in-Untestable-clause-exact : goal.returns-in-Untestable-clause-exact
returns-in-Untestable-clause-exact c = rw c.in-Untestable.is c.refutes.ensures.passes

pub returns-in-UntestableFrom-clause-exact : goal.returns-in-UntestableFrom-clause-exact
returns-in-UntestableFrom-clause-exact c = rw c.in-UntestableFrom.is c.refutes_from.ensures.passes

pub returns-in-UndetectableBySets-clause-exact : goal.returns-in-UndetectableBySets-clause-exact
returns-in-UndetectableBySets-clause-exact c =
    let y = c.as_slice.ensures in
    IfOk-weaker c.closes_by_rows.result _ _ (λ b h. (λ t. let k = h.0 t in search rules, λ p. search rules))
    c.closes_by_rows.ensures

pub returns-in-UndetectableByCubes-clause-exact : goal.returns-in-UndetectableByCubes-clause-exact
returns-in-UndetectableByCubes-clause-exact c =
    let x = c.as_slice-cubes.ensures in
    let y = c.as_slice-steps.ensures in
    IfOk-weaker c.refuted.result _ _ (λ b h. (λ t. let k = h.0 t in search rules, λ p. search rules))
    c.refuted.ensures.exact

pub returns-in-Aborted-clause-exact : goal.returns-in-Aborted-clause-exact
returns-in-Aborted-clause-exact c = rw c.in-Aborted.is c.is_abort_record.ensures.passes
