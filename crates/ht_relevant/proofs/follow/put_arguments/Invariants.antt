use Rattle.ht_net.specs.Circuit.Netlist.{arg_at}
use Rattle.ht_relevant.proofs.PutLaws.{HavePut}
use Rattle.ht_relevant.proofs.follow.put_arguments.Given as goal

abbrev pub invariant-loop-arg : goal.invariant-loop-arg
invariant-loop-arg l = HavePut l.fn.distances l.distances (arg_at l.circuit l.g) (λ k x. Unit {0}) l.arg-index
