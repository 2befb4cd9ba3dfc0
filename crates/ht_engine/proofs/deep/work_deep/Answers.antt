use Rattle.std.proofs.Common.{refl}
use Rattle.std.proofs.lemmas.Result.{IfOk-weaker}
use Rattle.ht_tree.specs.Window.Windows.{state_pair}
use Rattle.ht_engine.proofs.DeepLaws.{deep_passes, if_ok_both, open_deep, refuted_deep}
use Rattle.ht_engine.proofs.EnoughLaws.{deep_found, enough_open, enough_refuted}
use Rattle.ht_engine.proofs.deep.work_deep.Goals as goal

pub returns-in-Refute-clause-answer : goal.returns-in-Refute-clause-answer
returns-in-Refute-clause-answer c =
    let rounds = rw c.in-Refute.is at c.in_ok-entry.ensures.answer in
    refuted_deep c.args.bases.now.circuit c.args.fault c.args.settings.now
    (state_pair c.args.states.good c.args.states.bad) c.args.invariant.now c.in-Refute.entry rounds.0
    (rw c.in-Refute.is at c.in_ok-entry.ensures.enough)

pub returns-in-Refute-clause-holds : goal.returns-in-Refute-clause-holds
returns-in-Refute-clause-holds c =
    let rounds = rw c.in-Refute.is at c.in_ok-entry.ensures.answer in rounds.1 c.args.settings.now.start

pub returns-in-Refute-clause-enough : goal.returns-in-Refute-clause-enough
returns-in-Refute-clause-enough c =
    let rounds = rw c.in-Refute.is at c.in_ok-entry.ensures.answer in
    enough_refuted c.args.bases.now.circuit c.args.fault c.args.settings.now.budget
    (rw c.circuit.ensures.circuit at c.nets.ensures.circuit) c.args.invariant.now.clauses c.in-Refute.entry rounds.1
    (rw c.in-Refute.is at c.in_ok-entry.ensures.enough)

pub returns-in-LeaveOpen-clause-answer : goal.returns-in-LeaveOpen-clause-answer
returns-in-LeaveOpen-clause-answer c =
    let left = rw c.in-LeaveOpen.is at c.in_ok-entry.ensures.answer in
    IfOk-weaker c.work_open.result _ _
    (λ w is. open_deep c.args.bases.now.circuit c.args.fault c.args.settings.now
    (state_pair c.args.states.good c.args.states.bad) c.args.invariant.now left.1 w is)
    (rw c.in_ok-entry.ensures.circuit at c.work_open.ensures.answer)

pub returns-in-LeaveOpen-clause-enough : goal.returns-in-LeaveOpen-clause-enough
returns-in-LeaveOpen-clause-enough c =
    let circuit = c.args.bases.now.circuit in
    let settings = c.args.settings.now in
    let is = rw c.circuit.ensures.circuit at c.nets.ensures.circuit in
    let unsealed = rw c.in-LeaveOpen.is at c.in_ok-entry.ensures.enough in
    if_ok_both c.work_open.result _ _ _
    (λ w is_work holds. enough_open circuit c.args.fault settings.budget is c.args.invariant.now.clauses w unsealed
    (deep_found circuit c.args.fault settings.budget is settings (state_pair c.args.states.good c.args.states.bad)
    c.requires.latches refl w is_work
    (deep_passes circuit c.args.fault settings c.args.states.good c.args.states.bad w holds)))
    (rw c.in_ok-entry.ensures.circuit at c.work_open.ensures.answer)
    (rw c.in_ok-entry.ensures.circuit at c.work_open.ensures.holds)
