use Rattle.std.proofs.Common.{◌≡◌, None, replicate}
use Rattle.ht_uninit.proofs.rounds.no_walks.Given as goal

abbrev pub invariant-loop : goal.invariant-loop
invariant-loop l = l.walks.items ≡ replicate l.counter None
