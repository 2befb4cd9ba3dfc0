use Rattle.std.proofs.Common.{◌≡◌, ◌≤◌}
use Rattle.ht_bred.specs.Extended.{AreExtended}
use Rattle.ht_bred.proofs.bred.breed_bursts.Given as goal

-- what was bred so far was added, and there are as many as were asked for at most
abbrev pub invariant-loop-burst : goal.invariant-loop-burst
invariant-loop-burst l =
    AreExtended l.initial.grader l.grader l.initial.vectors.list l.initial.vectors l.vectors l.count
    × (l.count ≤ l.most) × (l.bursts ≡ l.initial.bursts)
