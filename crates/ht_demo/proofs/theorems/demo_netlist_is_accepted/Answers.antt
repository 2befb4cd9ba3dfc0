use Rattle.ht_bench.proofs.NormalRoundLaws.{normal_is_netlist}
use Rattle.ht_demo.proofs.CircuitLaws.{demo, demo_is_circuit, demo_has_format_names}
use Rattle.ht_demo.proofs.ShortLaws.{demo_is_short}
use Rattle.ht_demo.proofs.theorems.demo_netlist_is_accepted.Goals as goal

pub returns : goal.returns
returns _ = record {
  netlist = λ size seed some few.
      normal_is_netlist (demo size seed) (demo_is_circuit size seed some few)
      (demo_has_format_names size seed some few);
  short = demo_is_short;
}
