use Rattle.std.proofs.Common.{◌≡◌, ◌∙◌, ◌+◌, ℕ, true, false, get_or, ap, arith}
use Rattle.ht_relevant.proofs.PutLaws.{none_put, one_more_put}
use Rattle.ht_relevant.proofs.away.begin_latches.Goals as goal

pub loop-j-init : goal.loop-j-init
loop-j-init c = none_put c.args.away.now (λ k. c.args.circuit.now.inputs + k)
    (λ k x. get_or c.args.apart.now k false ≡ true)

pub put_if-requires : goal.put_if-requires
put_if-requires c =
    let t = c.loop-j-test.true in
    let d = c.dffs-j-end.ensures in
    let i = c.inputs-inputs.ensures in
    let count = c.requires in
    let more = c.loop-j.invariant.grown.lower.count in
    omega (arith, t, d, i, count, more)

pub loop-j-preserved : goal.loop-j-preserved
loop-j-preserved c =
    let j = c.loop-j.j in
    one_more_put c.args.away.now (λ k. c.args.circuit.now.inputs + k) (λ k x. get_or c.args.apart.now k false ≡ true)
    c.loop-j.away c.put_if.new.self j (c.inputs-inputs.result + j) c.loop-j.invariant c.in_ok-put_if.ensures.grown
    (ap (λ (i : ℕ). i + j) c.inputs-inputs.ensures) (λ is. c.in_ok-put_if.ensures.put (c.is_set.ensures ∙ is))

pub returns-clause-begun : goal.returns-clause-begun
returns-clause-begun c = λ j js is.
    let t = c.loop-j-test.false in
    let d = c.dffs-j-end.ensures in
    c.loop-j.invariant.put j (omega (arith, t, d, js)) is
