use Rattle.std.proofs.Common.{◌∙◌}
use Rattle.ht_cubes.proofs.ConeLaws.{grown_now, grown_more}
use Rattle.ht_cubes.proofs.cone.close.Goals as goal

pub rounds-init : goal.rounds-init
rounds-init c = grown_now c.args.circuit.now c.args.marks.now

pub sweep-changed-requires : goal.sweep-changed-requires
sweep-changed-requires c = c.rounds.invariant.long ∙ c.requires

pub rounds-preserved : goal.rounds-preserved
rounds-preserved c = grown_more c.args.circuit.now c.args.marks.now c.rounds.marks c.sweep-changed.new.marks
    c.rounds.invariant c.sweep-changed.ensures.grown

pub rounds-smaller : goal.rounds-smaller
rounds-smaller c = c.sweep-changed.ensures.swept.fewer c.if-not-changed.false

pub returns-then-not-changed-clause-grown : goal.returns-then-not-changed-clause-grown
returns-then-not-changed-clause-grown c = grown_more c.args.circuit.now c.args.marks.now c.rounds.marks c.sweep-changed.new.marks
    c.rounds.invariant c.sweep-changed.ensures.grown

pub returns-then-not-changed-clause-closed : goal.returns-then-not-changed-clause-closed
returns-then-not-changed-clause-closed c = c.sweep-changed.ensures.swept.closed c.if-not-changed.true
