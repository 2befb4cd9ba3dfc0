use Rattle.std.proofs.Common.{◌∙◌, arith}
use Rattle.ht_causes.proofs.SightLaws.{latches_read}
use Rattle.ht_causes.proofs.compare.read_latches.Goals as goal

pub returns : goal.returns
returns c =
    latches_read c.args.circuit.now c.args.good.now c.loop-j.latches c.loop-j.j c.requires.good
    (c.loop-j.auto.latches ∙ c.requires.each) (omega arith) c.loop-j.invariant
