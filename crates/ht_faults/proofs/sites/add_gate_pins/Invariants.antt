use Rattle.std.proofs.Common.{◌≡◌, ◌++◌}
use Rattle.std.specs.List.{filter, flat_map, range_with_len}
use Rattle.ht_faults.specs.Sites.{is_site, pins_of_gate}
use Rattle.ht_faults.proofs.sites.add_gate_pins.Given as goal

abbrev pub invariant-loop-gate : goal.invariant-loop-gate
invariant-loop-gate l = l.sites.items ≡ l.fn.sites.items
    ++ filter (is_site l.circuit) (flat_map (pins_of_gate l.circuit) (range_with_len 0 l.gate))
