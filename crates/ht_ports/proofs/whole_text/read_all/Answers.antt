use Rattle.std.proofs.Common.{arith, rules}
use Rattle.std.proofs.lemmas.Grind.{common_steps}
use Rattle.ht_ports.proofs.CallLaws.{reads_trans, took_more}
use Rattle.ht_ports.proofs.whole_text.read_all.Goals as goal

pub loop-port-preserved : goal.loop-port-preserved
loop-port-preserved g c = (
  reads_trans _ _ _ _ c.loop-port.invariant.0 c.in_ok-count.ensures.frame,
  took_more _ _ _ _ _ _ _ c.loop-port.invariant.1 c.in_ok-count.ensures.took.took
      (first_of (search rules, grind (arith, common_steps))),
)
