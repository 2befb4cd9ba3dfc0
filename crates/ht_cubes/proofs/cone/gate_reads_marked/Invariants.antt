use Rattle.std.proofs.Common.{◌≡◌, ◌<◌, ℕ, false}
use Rattle.ht_net.specs.Circuit.Netlist.{arg_at}
use Rattle.ht_cubes.specs.Cones.{marked}
use Rattle.ht_cubes.proofs.cone.gate_reads_marked.Given as goal

abbrev pub invariant-loop-arg : goal.invariant-loop-arg
invariant-loop-arg l = (i : ℕ) → i < l.arg-index → marked l.marks (arg_at l.circuit l.g i) ≡ false
