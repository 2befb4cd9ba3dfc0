use Rattle.std.proofs.Common.{◌≡◌, ◌<◌, ℕ, get_or}
use Rattle.ht_faults.specs.Classes.{own_representatives}
use Rattle.ht_proofs.proofs.class_grader.place_among.Given as goal

-- no representative before this one is the fault
abbrev pub invariant-loop-k : goal.invariant-loop-k
invariant-loop-k l = (j : ℕ) → j < l.k → ¬ (get_or (own_representatives l.classes) j 0 ≡ l.i)
