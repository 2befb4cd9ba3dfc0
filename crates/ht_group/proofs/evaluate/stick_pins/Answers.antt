use Rattle.std.specs.Int.{w64, trailing_zeros}
use Rattle.std.proofs.Common.{◌∙◌, sym, arith}
use Rattle.ht_group.proofs.PinLaws.{all_left, first_stuck, none_left, first_lane, rest_left, rest_smaller}
use Rattle.ht_group.proofs.evaluate.stick_pins.Goals as goal

pub loop-rest-init : goal.loop-rest-init
loop-rest-init c = record {
  room = c.requires.room;
  lanes = all_left c.args.faults.now c.args.g c.args.lanes c.args.pins.now c.requires.lanes;
  left = λ k below is. sym (c.requires.lanes k below) ∙ is;
}

pub bounds-faults-k : goal.bounds-faults-k
bounds-faults-k c =
    let f = first_lane c.args.faults.now c.args.g c.loop-rest.rest (omega (arith, c.loop-rest-test.true))
    c.loop-rest.auto.rest-fits.fits c.loop-rest.invariant.left in
    f.within

pub loop-rest-smaller : goal.loop-rest-smaller
loop-rest-smaller c =
    let f = first_lane c.args.faults.now c.args.g c.loop-rest.rest (omega (arith, c.loop-rest-test.true))
    c.loop-rest.auto.rest-fits.fits c.loop-rest.invariant.left in
    rest_smaller c.loop-rest.rest (trailing_zeros w64 c.loop-rest.rest) f.small f.bit

pub loop-rest-preserved : goal.loop-rest-preserved
loop-rest-preserved c =
    let faults = c.args.faults.now in
    let k = trailing_zeros w64 c.loop-rest.rest in
    let f = first_lane c.args.faults.now c.args.g c.loop-rest.rest (omega (arith, c.loop-rest-test.true))
    c.loop-rest.auto.rest-fits.fits c.loop-rest.invariant.left in
    record {
      room = c.stick_pin.ensures.room;
      lanes = first_stuck c.args.faults.now c.args.g c.loop-rest.rest (trailing_zeros w64 c.loop-rest.rest)
          c.args.pins.now
          c.loop-rest.pins c.stick_pin.new.pins _ f c.stick_pin.ensures.lanes c.loop-rest.invariant.lanes;
      left = rest_left faults c.args.g c.loop-rest.rest k f.small c.loop-rest.invariant.left;
    }

pub returns-clause-lanes : goal.returns-clause-lanes
returns-clause-lanes c = none_left c.args.faults.now c.args.g c.loop-rest.rest c.args.pins.now c.loop-rest.pins
    (omega (arith, c.loop-rest-test.false)) c.loop-rest.invariant.lanes
