use Rattle.std.proofs.Common.{take}
use Rattle.ht_net.specs.Detect.Detection.{Allows}
use Rattle.ht_net.proofs.start.allows.Given as goal

abbrev pub invariant-loop-j : goal.invariant-loop-j
invariant-loop-j l = Allows (take l.j l.start) (take l.j l.state)
