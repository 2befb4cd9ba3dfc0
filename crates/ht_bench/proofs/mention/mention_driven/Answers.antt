use Rattle.std.proofs.Common.{arith}
use Rattle.ht_bench.proofs.MentionLaws.{driven_before}
use Rattle.ht_bench.proofs.mention.mention_driven.Goals as goal

pub returns-then-driven-clause-refusal : goal.returns-then-driven-clause-refusal
returns-then-driven-clause-refusal c =
    let before = driven_before c.args.name.now c.in_ok-id.id c.in_ok-id.ensures.mentions c.in_ok-id.ensures.number.1 in
    grind (arith, before)

pub returns-clause-found : goal.returns-clause-found
returns-clause-found c =
    let before = driven_before c.args.name.now c.in_ok-id.id c.in_ok-id.ensures.mentions c.in_ok-id.ensures.number.1 in
    record { mentions = c.in_ok-id.ensures.mentions; number = c.in_ok-id.ensures.number; free = grind (arith, before) }
