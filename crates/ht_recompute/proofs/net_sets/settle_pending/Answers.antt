use Rattle.std.proofs.Common.{inl, inr}
use Rattle.std.proofs.lemmas.Bool.{cases_lt}
use Rattle.ht_recompute.proofs.NetSetLaws.{none_pending}
use Rattle.ht_recompute.proofs.net_sets.settle_pending.Goals as goal

pub returns-clause-gates : goal.returns-clause-gates
returns-clause-gates c =
    let u = c.args.under.now in
    let inv = c.loop-rank.invariant in
    none_pending u.circuit.now u.schedule.now c.requires.quiet.schedule u.fault c.loop-rank.pending c.loop-rank.values
    (λ r high. elim (cases_lt r c.loop-rank.from) [
      | inl low ↦ inv.done r high low
      | inr past ↦ c.in_default.ensures.none r past
    ]) inv.quiet
