use Rattle.ht_relevant.proofs.PutLaws.{HavePut, net_at, output_shown}
use Rattle.ht_relevant.proofs.find.put_outputs.Given as goal

abbrev pub invariant-loop-o : goal.invariant-loop-o
invariant-loop-o l = HavePut l.fn.near l.near (net_at l.circuit.outputs) (output_shown l.away) l.o
