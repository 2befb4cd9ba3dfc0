use Rattle.std.proofs.Common.{◌≡◌, ◌++◌, map}
use Rattle.std.specs.List.{filter, range_with_len}
use Rattle.ht_net.specs.declared.fault.Site.TheVariants.{DffPin}
use Rattle.ht_faults.specs.Sites.{is_site}
use Rattle.ht_faults.proofs.sites.add_data_pins.Given as goal

abbrev pub invariant-loop-dff : goal.invariant-loop-dff
invariant-loop-dff l = l.sites.items ≡ l.fn.sites.items
    ++ filter (is_site l.circuit) (map (λ j. DffPin j) (range_with_len 0 l.dff))
