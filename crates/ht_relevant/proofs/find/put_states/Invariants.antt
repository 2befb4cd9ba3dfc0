use Rattle.ht_relevant.proofs.PutLaws.{HavePut, net_at, state_shown}
use Rattle.ht_relevant.proofs.find.put_states.Given as goal

abbrev pub invariant-loop-j : goal.invariant-loop-j
invariant-loop-j l =
    HavePut l.fn.near l.near (net_at l.circuit.dffs) (state_shown l.away l.site l.counted) l.j
