use Rattle.std.proofs.Common.{◌≡◌, ◌++◌, map}
use Rattle.std.specs.List.{range_with_len}
use Rattle.ht_net.specs.declared.fault.Site.TheVariants.{Stem}
use Rattle.ht_faults.proofs.sites.add_stems.Given as goal

abbrev pub invariant-loop-x : goal.invariant-loop-x
invariant-loop-x l = l.sites.items ≡ l.fn.sites.items ++ map (λ x. Stem (record { 0 = x })) (range_with_len 0 l.x)
