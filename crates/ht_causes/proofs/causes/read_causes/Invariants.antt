use Rattle.ht_causes.specs.Tracks.{AreCausesKept}
use Rattle.ht_causes.proofs.causes.read_causes.Given as goal

abbrev pub invariant-loop-track : goal.invariant-loop-track
invariant-loop-track l = AreCausesKept l.tracks l.track-index l.causes.items
