use Rattle.std.proofs.Common.{◌≡◌, ◌++◌, take}
use Rattle.ht_bred.proofs.vectors.append.Given as goal

-- the first vectors of the other list were added
abbrev pub invariant-loop-t : goal.invariant-loop-t
invariant-loop-t l =
    (l.list.width ≡ l.initial.list.width) × (l.list.list ≡ l.initial.list.list ++ take l.t l.more.list)
