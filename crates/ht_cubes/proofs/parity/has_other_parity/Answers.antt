use Rattle.std.proofs.Common.{Bool, false, not, get_or, sym, ◌∙◌, arith}
use Rattle.std.proofs.lemmas.Bool.{cond-true, cond-false}
use Rattle.ht_cubes.proofs.PieceLaws.{parity_on, parity_end}
use Rattle.ht_cubes.proofs.parity.has_other_parity.Goals as goal
use Rattle.ht_cubes.proofs.parity.has_other_parity.Goals.{then-b, else-b}

pub loop-b-preserved : goal.loop-b-preserved
loop-b-preserved c =
    let bits = c.args.bits.now in
    let other = c.loop-b.other in
    let here : Bool = get_or bits c.loop-b.b-index false in
    parity_on c.args.bit bits c.loop-b.b-index other c.if-b.other c.loop-b-test.true c.loop-b.invariant
    (elim c.if-b.branch [
      | then-b w ↦ w.other-is ∙ sym (cond-true here (not other) other w.if-b.true)
      | else-b w ↦ w.other-is ∙ sym (cond-false here (not other) other w.if-b.false)
    ])

pub returns : goal.returns
returns c = parity_end c.args.bit c.args.bits.now c.loop-b.b-index c.loop-b.other
    (omega (arith, c.loop-b-test.false)) c.loop-b.invariant
