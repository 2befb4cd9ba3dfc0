use Rattle.ht_bench.proofs.add_line.add.Goals as goal

pub returns-in-Gate-clause-accepts : goal.returns-in-Gate-clause-accepts
returns-in-Gate-clause-accepts c = rw (c.in-Gate.is, ← c.deref.ensures.value) c.add_gate.ensures.accepts

pub returns-in-Gate-clause-refusal : goal.returns-in-Gate-clause-refusal
returns-in-Gate-clause-refusal c = rw (c.in-Gate.is, ← c.deref.ensures.value) c.add_gate.ensures.refusal
