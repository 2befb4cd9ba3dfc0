use Rattle.std.proofs.Common.{◌≡◌, drop}
use Rattle.ht_tern.specs.Gate.{bool_xor}
use Rattle.ht_cubes.specs.Formula.{parity_of}
use Rattle.ht_cubes.proofs.parity.has_other_parity.Given as goal

abbrev pub invariant-loop-b : goal.invariant-loop-b
invariant-loop-b l = bool_xor l.other (parity_of (drop l.b-index l.bits)) ≡ bool_xor l.bit (parity_of l.bits)
