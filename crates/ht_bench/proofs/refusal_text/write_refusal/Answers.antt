use Rattle.ht_bench.proofs.refusal_text.write_refusal.Goals as goal

pub returns-in-Twice : goal.returns-in-Twice
returns-in-Twice g c = rw (c.in-Twice.is, ← c.as_slice.ensures) c.write_named.ensures
