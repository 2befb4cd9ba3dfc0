use Rattle.std.proofs.Common.{◌∙◌, ap, sym}
use Rattle.ht_full.specs.Known.{KnownView}
use Rattle.ht_full.proofs.KnownLaws.{outside_is_not_open}
use Rattle.ht_full.proofs.known.Known.is_open.Goals as goal

-- there is no such fault
pub returns-then-fault-len : goal.returns-then-fault-len
returns-then-fault-len c =
    let kept = c.self.invariant in
    let circuit = sym (ap (λ (k : KnownView). k.verdicts.circuit) c.self.view_is) ∙ kept.circuit in
    outside_is_not_open c.self.inside.circuit.now c.self.inside.classes.now c.args.self.now c.args.fault c.len.result
    kept.are circuit c.len.ensures c.if-fault-len.true
