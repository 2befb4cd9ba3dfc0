use Rattle.ht_events.proofs.ReaderLaws.{HasRankRows}
use Rattle.ht_events.proofs.rank_readers.readers.Given as goal

abbrev pub invariant-loop-net : goal.invariant-loop-net
invariant-loop-net l = HasRankRows l.circuit l.ranks l.readers l.net
