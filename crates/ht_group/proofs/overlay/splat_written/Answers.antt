use Rattle.std.proofs.Common.{◌<◌, ◌∙◌, length, ap, arith, inl, inr}
use Rattle.std.proofs.lemmas.Bool.{cases_lt}
use Rattle.std.proofs.lemmas.List.{length-set, get_or_default}
use Rattle.ht_tern.specs.declared.tern.Tern.TheVariants.{Unk}
use Rattle.ht_lanes.specs.Lanes.{every_lane}
use Rattle.ht_group.proofs.OverlayLaws.{good_words, good_written, good_up_to}
use Rattle.ht_group.proofs.overlay.splat_written.Goals as goal

pub loop-x-preserved : goal.loop-x-preserved
loop-x-preserved c =
    let l = c.loop-x in
    let i = c.loop-x.invariant in
    let x = c.in-Some.x in
    let within : x < length c.args.good.now = omega (arith, c.in-Some.ensures.within, c.requires.marks) in
    let inside : x < length c.loop-x.words = omega (arith, within, c.loop-x.invariant.count) in
    let is = c.splat.ensures ∙ ap every_lane (get_or_default c.args.good.now c.in-Some.x _ Unk within) in
    record {
      count = length-set c.loop-x.words c.in-Some.x c.splat.result ∙ c.loop-x.invariant.count;
      within = omega (arith, within);
      done = good_up_to c.args.good.now c.loop-x.words c.args.written.now c.loop-x.from c.in-Some.x c.splat.result
          inside is c.loop-x.invariant.done c.loop-x.invariant.rest c.in-Some.ensures.least;
      rest = λ n at none. good_written c.args.good.now c.loop-x.words c.in-Some.x c.splat.result inside is n
          (λ ne. c.loop-x.invariant.rest n at none);
    }

pub returns : goal.returns
returns c = good_words c.args.good.now c.loop-x.words c.loop-x.invariant.count
    (λ n at. elim (cases_lt n c.loop-x.from) [
      | inl before ↦ c.loop-x.invariant.done n before at
      | inr after ↦ c.loop-x.invariant.rest n at (c.in_default.ensures.none n after)
    ])
