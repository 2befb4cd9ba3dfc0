use Rattle.std.proofs.Common.{◌≡◌, replicate}
use Rattle.ht_causes.specs.Tracks.{no_track}
use Rattle.ht_causes.proofs.words.empty_tracks.Given as goal

abbrev pub invariant-loop : goal.invariant-loop
invariant-loop l = l.tracks.items ≡ replicate l.counter no_track
