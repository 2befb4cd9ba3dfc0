use Rattle.std.proofs.Common.{◌≡◌, ◌++◌, map}
use Rattle.std.specs.List.{filter, range_with_len}
use Rattle.ht_net.specs.declared.fault.Site.TheVariants.{GatePin}
use Rattle.ht_faults.specs.Sites.{is_site}
use Rattle.ht_faults.proofs.sites.add_pins.Given as goal

abbrev pub invariant-loop-i : goal.invariant-loop-i
invariant-loop-i l = l.sites.items ≡ l.fn.sites.items
    ++ filter (is_site l.circuit) (map (λ i. GatePin l.gate i) (range_with_len 0 l.i))
