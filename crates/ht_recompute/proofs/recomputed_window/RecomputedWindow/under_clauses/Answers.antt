use Rattle.std.proofs.Common.{◌∙◌}
use Rattle.ht_recompute.proofs.ClauseLaws.{under_is}
use Rattle.ht_recompute.proofs.recomputed_window.RecomputedWindow.under_clauses.Goals as goal

pub returns-clause-status : goal.returns-clause-status
returns-clause-status c =
    c.under_clauses.ensures
    ∙ under_is c.self.inside c.args.self.now c.self.view_is c.requires.one c.self.invariant _
    c.write_decisions.new.decisions c.deref_mut.ensures.value c.write_decisions.ensures.room c.args.path.now
    c.write_decisions.ensures.written c.args.clauses.now c.requires.known c.circuit.result.now c.circuit.ensures.circuit
    c.inputs-first.result c.inputs-first.ensures c.deref.result.now c.deref.ensures.value c.args.sought
