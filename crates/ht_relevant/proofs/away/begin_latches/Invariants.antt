use Rattle.std.proofs.Common.{◌≡◌, ◌+◌, true, false, get_or}
use Rattle.ht_relevant.proofs.PutLaws.{HavePut}
use Rattle.ht_relevant.proofs.away.begin_latches.Given as goal

abbrev pub invariant-loop-j : goal.invariant-loop-j
invariant-loop-j l = HavePut l.fn.away l.away (λ k. l.circuit.inputs + k) (λ k x. get_or l.apart k false ≡ true) l.j
