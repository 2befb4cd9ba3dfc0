use Rattle.std.proofs.Common.{◌≡◌, map, take}
use Rattle.ht_net.specs.Build.Draft.{draft_name}
use Rattle.ht_bench.proofs.reader.names_of.Given as goal

abbrev pub invariant-loop-net : goal.invariant-loop-net
invariant-loop-net l = l.names.items ≡ map (draft_name l.builder) (take l.net-index l.nets)
