use Rattle.std.proofs.Common.{arith}
use Rattle.ht_uninit.proofs.RoundLaws.{at_again, at_end, fewer_left}
use Rattle.ht_uninit.proofs.rounds.find_held.Goals as goal

pub rounds-init : goal.rounds-init
rounds-init c = c.in_ok-rounds.ensures c.args.budget

pub rounds-smaller : goal.rounds-smaller
rounds-smaller c =
    fewer_left _ _ _ _ c.rounds.rounds.removed.items _ _ c.in_ok-next.ensures.at c.in_ok-next.ensures.before
    (λ none. c.if-last.false (omega (arith, c.len.ensures, none)))

pub rounds-preserved : goal.rounds-preserved
rounds-preserved c =
    at_again _ _ _ _ _ _ c.in_ok-next.ensures.at (λ none. c.if-last.false (omega (arith, c.len.ensures, none)))

pub returns-then-last : goal.returns-then-last
returns-then-last c = at_end _ _ _ _ _ _ c.in_ok-next.ensures.at (omega (arith, c.len.ensures, c.if-last.true))
