use Rattle.ht_faults.proofs.SiteLaws.{gate_more}
use Rattle.ht_faults.proofs.sites.add_gate_pins.Goals as goal

pub loop-gate-preserved : goal.loop-gate-preserved
loop-gate-preserved c = gate_more c.args.circuit.now c.args.sites.now.items c.loop-gate.sites.items
    c.add_pins.new.sites.items c.loop-gate.gate c.loop-gate.invariant c.in_ok-add_pins.ensures
