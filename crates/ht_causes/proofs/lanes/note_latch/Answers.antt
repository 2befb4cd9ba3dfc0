use Rattle.std.proofs.Common.{◌+◌, ◌∙◌, sym, ap, refl, arith}
use Rattle.std.specs.Int.{trailing_zeros, w64}
use Rattle.ht_tern.specs.declared.tern.Tern.{Tern}
use Rattle.ht_causes.specs.declared.track.Track.{Track}
use Rattle.ht_causes.specs.Tracks.{latch_kept}
use Rattle.ht_proofs.proofs.LaneLaws.{first_set}
use Rattle.ht_causes.proofs.NotedLaws.{noted_more, noted_past}
use Rattle.ht_causes.proofs.lanes.note_latch.Goals as goal

pub loop-rest-smaller-in-Continue-1 : goal.loop-rest-smaller-in-Continue-1
loop-rest-smaller-in-Continue-1 c =
    let first = first_set c.loop-rest.rest c.loop-rest-test.true c.loop-rest.auto.rest-fits.fits in
    first.smaller

pub loop-rest-smaller : goal.loop-rest-smaller
loop-rest-smaller c =
    let first = first_set c.loop-rest.rest c.loop-rest-test.true c.loop-rest.auto.rest-fits.fits in
    first.smaller

pub loop-rest-preserved-in-Continue-1 : goal.loop-rest-preserved-in-Continue-1
loop-rest-preserved-in-Continue-1 c =
    let first = first_set c.loop-rest.rest c.loop-rest-test.true c.loop-rest.auto.rest-fits.fits in
    let here = c.index-tracks-from.result in
    let k = trailing_zeros w64 c.loop-rest.rest in
    let is = c.in_ok-note_latch.ensures
    ∙ (ap (λ (x : Track). latch_kept c.args.place c.args.good c.lane.result x) (sym c.index-tracks-from.is)
    ∙ ap (λ (v : Tern). latch_kept c.args.place c.args.good v here) c.lane.ensures) in
    noted_more c.args.from c.args.count c.loop-rest.rest _ c.args.tracks.now c.loop-rest.tracks _ k (c.args.from + k)
    here c.note_latch.new.self c.requires.few first (omega (arith, c.if-k-count.true))
    (omega (arith, c.requires.room, c.loop-rest.auto.tracks)) refl c.index-tracks-from.is is refl c.loop-rest.invariant

pub loop-rest-preserved : goal.loop-rest-preserved
loop-rest-preserved c =
    let first = first_set c.loop-rest.rest c.loop-rest-test.true c.loop-rest.auto.rest-fits.fits in
    noted_past c.args.from c.args.count c.loop-rest.rest _ c.args.tracks.now c.loop-rest.tracks _ c.requires.few first
    (omega (arith, c.if-k-count.false)) c.loop-rest.invariant
