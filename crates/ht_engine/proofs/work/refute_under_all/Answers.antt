use Rattle.std.proofs.lemmas.Bool.{false≢true}
use Rattle.ht_engine.proofs.EnoughLaws.{entry_is_work, entry_refutes, open_unsealed_in}
use Rattle.ht_engine.proofs.work.refute_under_all.Goals as goal

pub returns-in-Some-clause-answer : goal.returns-in-Some-clause-answer
returns-in-Some-clause-answer c =
    let t = c.args.task.now in (
      entry_is_work c.args.bases.now.circuit t.fault t.budget t.invariant.now c.args.told c.args.walk c.requires.open
          c.in-Some.entry (rw c.in-Some.is at c.in_ok-entry.ensures.answer),
      c.in_ok-entry.ensures.holds c.in-Some.entry c.in-Some.is,
    )

pub returns-in-Some-clause-enough : goal.returns-in-Some-clause-enough
returns-in-Some-clause-enough c =
    let t = c.args.task.now in
    entry_refutes c.args.bases.now.circuit t.fault t.budget t.invariant.now c.in-Some.entry
    (rw c.in-Some.is at c.in_ok-entry.ensures.answer)

pub returns-in-None-clause-enough : goal.returns-in-None-clause-enough
returns-in-None-clause-enough c = λ large z.
    let t = c.args.task.now in
    open_unsealed_in c.args.bases.now.circuit t.fault t.budget (rw c.circuit.ensures.circuit at c.nets.ensures.circuit)
    c.args.told c.args.walk c.requires.open t.invariant.now.clauses large z
    (λ some seal. false≢true (rw c.in-None.is at c.in_ok-entry.ensures.enough large z some seal))
