use Rattle.std.proofs.Common.{List, length, subst}
use Rattle.ht_causes.specs.declared.track.Track.{Track}
use Rattle.ht_causes.specs.Tracks.{AreCausesKept}
use Rattle.std.proofs.lemmas.Result.{IfOk-weaker}
use Rattle.ht_causes.proofs.TrackLaws.{causes_read}
use Rattle.ht_causes.proofs.causes.run_causes.Goals as goal

pub returns : goal.returns
returns c =
    IfOk-weaker c.read_causes.result _ _
    (λ causes kept. causes_read c.args.circuit.now c.args.classes.now c.args.start.now c.args.list.now.list
    c.run_list.new.run.live.items c.run_list.new.run.tracks.items causes.items
    c.in_ok-run_list.ensures.ready.track_count c.in_ok-run_list.ensures.run.tracked
    (subst (λ (x : List Track). AreCausesKept x (length x) causes.items) c.deref.ensures.value kept))
    c.read_causes.ensures
