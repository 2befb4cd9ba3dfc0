use Rattle.std.proofs.Common.{◌∙◌, ap, sym, arith}
use Rattle.std.proofs.lemmas.Bool.Decides.{nat_tests}
use Rattle.ht_net.specs.declared.fault.Site.{Site}
use Rattle.ht_recompute.specs.GateSets.{is_gate_line}
use Rattle.ht_recompute.proofs.net_sets.gate_of.Goals as goal

pub returns-in-Stem : goal.returns-in-Stem
returns-in-Stem c g h =
    let line = sym (ap (λ (s : Site). is_gate_line c.args.circuit.now s g) c.in-Stem.is) ∙ h in
    c.gate_of_net.ensures g (grind (arith, nat_tests))
