use Rattle.std.proofs.Common.{◌<◌, ◌∙◌, length, ap, arith}
use Rattle.std.proofs.lemmas.List.{length-set, get_or_default}
use Rattle.ht_tern.specs.declared.tern.Tern.TheVariants.{Unk}
use Rattle.ht_lanes.specs.Lanes.{every_lane}
use Rattle.ht_group.proofs.OverlayLaws.{good_words, good_written}
use Rattle.ht_group.proofs.overlay.splat_all.Goals as goal

pub loop-x-preserved : goal.loop-x-preserved
loop-x-preserved c =
    let l = c.loop-x in
    let at = c.loop-x-test.true in
    let inside : c.loop-x.x < length c.loop-x.words = omega (arith, at, c.loop-x.invariant.count) in
    record {
      count = length-set c.loop-x.words c.loop-x.x c.splat.result ∙ c.loop-x.invariant.count;
      done = λ i below. good_written c.args.good.now c.loop-x.words c.loop-x.x c.splat.result inside
          (c.splat.ensures ∙ ap every_lane (get_or_default c.args.good.now c.loop-x.x _ Unk at)) i
          (λ ne. c.loop-x.invariant.done i (omega (arith, below, ne)));
    }

pub returns : goal.returns
returns c = good_words c.args.good.now c.loop-x.words c.loop-x.invariant.count
    (λ i at. c.loop-x.invariant.done i (omega (arith, at, c.loop-x-test.false)))
