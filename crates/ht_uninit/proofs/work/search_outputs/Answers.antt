use Rattle.std.proofs.Common.{◌≡◌, ◌∙◌, ◌+◌, ℕ, List, length, ap, refl, subst, sym, arith}
use Rattle.ht_uninit.specs.declared.record.Out3.{Out3}
use Rattle.ht_uninit.specs.RoundStates.{AreOutputs}
use Rattle.ht_uninit.proofs.work.search_outputs.Goals as goal

pub loop-o-init : goal.loop-o-init
loop-o-init c = (
  c.requires.circuit,
  refl,
  c.requires.path,
  ap (λ (outs : List Out3). length outs) c.new-outs.ensures.items,
  λ o out l is. absurd (omega (arith, l)),
)

pub search_output-requires-clause-circuit : goal.search_output-requires-clause-circuit
search_output-requires-clause-circuit c = c.loop-o.invariant.0

pub search_output-requires-clause-path : goal.search_output-requires-clause-path
search_output-requires-clause-path c = c.loop-o.invariant.2

pub search_output-requires-clause-inside : goal.search_output-requires-clause-inside
search_output-requires-clause-inside c =
    let test = c.loop-o-test.true in
    let count = c.outputs-o-end.ensures in
    omega (arith, test, count)

pub search_output-requires-clause-long : goal.search_output-requires-clause-long
search_output-requires-clause-long c = c.loop-o.invariant.3

pub search_output-requires-clause-outs : goal.search_output-requires-clause-outs
search_output-requires-clause-outs c =
    subst (λ (u : List ℕ). AreOutputs c.args.circuit.now c.args.budget u c.loop-o.o c.loop-o.outs.items)
    (sym c.loop-o.invariant.1) c.loop-o.invariant.4

pub loop-o-preserved : goal.loop-o-preserved
loop-o-preserved c =
    let same = c.loop-o.invariant.1 in
    let done = c.in_ok-next.ensures in (
      done.circuit,
      done.members ∙ same,
      done.path,
      done.long,
      subst (λ (u : List ℕ). AreOutputs c.args.circuit.now c.args.budget u (c.loop-o.o + 1)
          c.search_output.new.outs.items) same done.outs,
    )

pub returns-clause-every : goal.returns-clause-every
returns-clause-every c =
    omega (arith, c.loop-o-test.false, c.outputs-o-end.ensures, c.loop-o.auto.o-end, c.loop-o.invariant.3)

pub returns-clause-outs : goal.returns-clause-outs
returns-clause-outs c =
    let all : c.loop-o.o ≡ length c.args.circuit.now.outputs =
    omega (arith, c.loop-o-test.false, c.outputs-o-end.ensures, c.loop-o.auto.o-end) in
    subst (λ (o : ℕ). AreOutputs c.args.circuit.now c.args.budget c.args.held.members o c.loop-o.outs.items) all
    c.loop-o.invariant.4
