use Rattle.std.proofs.Common.{◌≡◌, length}
use Rattle.ht_group.proofs.PinLaws.{ArePinsBut, AreLeft}
use Rattle.ht_group.proofs.evaluate.stick_pins.Given as goal

abbrev pub invariant-loop-rest : goal.invariant-loop-rest
invariant-loop-rest l = record {
  room : length l.pins ≡ 256;
  lanes : ArePinsBut l.faults l.fn.g l.rest l.fn.pins l.pins;
  left : AreLeft l.faults l.fn.g l.rest;
}

abbrev pub decreases-loop-rest : goal.decreases-loop-rest
decreases-loop-rest l = l.rest
