use Rattle.std.proofs.Common.{map}
use Rattle.ht_lanes.specs.Lanes.{word_at}
use Rattle.ht_breed.proofs.SensitizedLaws.{AreEarlier}
use Rattle.ht_breed.proofs.pins.trace_after_earlier.Given as goal

abbrev pub invariant-loop-i : goal.invariant-loop-i
invariant-loop-i l = AreEarlier l.kind (map (λ net. word_at l.words net) l.nets) l.output l.pins l.lanes l.i
