use Rattle.std.proofs.Common.{◌≡◌, ◌∙◌, ℕ, length, sym, subst, arith}
use Rattle.ht_uninit.specs.RoundStates.{IsAt}
use Rattle.ht_uninit.proofs.rounds.round.Goals as goal

pub loop-j-init : goal.loop-j-init
loop-j-init c =
    let r = c.args.rounds in
    let removed = c.args.rounds.removed in
    let count = c.len.ensures in
    let all : c.len.result ≡ length r.removed.items = omega (arith, count) in (
      all,
      subst (λ (before : ℕ). IsAt c.args.circuit.now c.args.budget before 0 r.held r.removed.items r.walks.items)
          (sym all) c.requires,
    )

pub search_member-requires-clause-at : goal.search_member-requires-clause-at
search_member-requires-clause-at c = c.loop-j.invariant.1

pub loop-j-preserved : goal.loop-j-preserved
loop-j-preserved c = (c.in_ok-next.ensures.before ∙ c.loop-j.invariant.0, c.in_ok-next.ensures.at)

pub returns-clause-before : goal.returns-clause-before
returns-clause-before c = c.loop-j.invariant.0

pub returns-clause-at : goal.returns-clause-at
returns-clause-at c =
    let all : c.loop-j.j ≡ length c.args.circuit.now.dffs =
    omega (arith, c.loop-j-test.false, c.dffs-j-end.ensures, c.loop-j.auto.j-end) in
    let r = c.loop-j.next in
    subst (λ (j : ℕ). IsAt c.args.circuit.now c.args.budget r.before j r.held r.removed.items r.walks.items) all
    c.loop-j.invariant.1
