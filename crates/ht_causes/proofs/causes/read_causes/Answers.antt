use Rattle.ht_causes.proofs.TrackLaws.{kept_more}
use Rattle.ht_causes.proofs.causes.read_causes.Goals as goal

pub loop-track-preserved : goal.loop-track-preserved
loop-track-preserved c =
    kept_more c.args.tracks.now c.loop-track.track-index c.loop-track.causes.items c.push.new.self.items c.cause.result
    c.track-item.result c.loop-track-test.true c.track-item.is c.cause.ensures
    c.in_ok-push.ensures.items c.loop-track.invariant
