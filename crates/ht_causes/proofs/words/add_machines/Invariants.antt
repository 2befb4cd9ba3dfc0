use Rattle.ht_causes.specs.Tracks.{AreAdded}
use Rattle.ht_causes.proofs.words.add_machines.Given as goal

abbrev pub invariant-loop-k : goal.invariant-loop-k
invariant-loop-k l =
    AreAdded l.initial.group.circuit l.initial.group.vector l.initial.group.latches l.tracks l.leads l.from l.k l.group
