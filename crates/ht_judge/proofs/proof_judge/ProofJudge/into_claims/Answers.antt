use Rattle.ht_judge.proofs.proof_judge.ProofJudge.into_claims.Goals as goal

pub returns-clause-each : goal.returns-clause-each
returns-clause-each c = rw (← c.self.view_is) c.self.invariant.claims.each
