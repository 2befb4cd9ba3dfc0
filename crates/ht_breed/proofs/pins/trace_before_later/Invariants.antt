use Rattle.std.proofs.Common.{map}
use Rattle.ht_lanes.specs.Lanes.{word_at}
use Rattle.ht_breed.proofs.SensitizedLaws.{AreLater}
use Rattle.ht_breed.proofs.pins.trace_before_later.Given as goal

abbrev pub invariant-loop-i : goal.invariant-loop-i
invariant-loop-i l = AreLater l.kind (map (λ net. word_at l.words net) l.nets) l.initial.pins l.pins l.lanes l.i
