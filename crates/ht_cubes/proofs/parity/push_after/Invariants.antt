use Rattle.std.proofs.Common.{◌≡◌, ◌++◌, ◌∷◌, map, take}
use Rattle.ht_cubes.proofs.parity.push_after.Given as goal

abbrev pub invariant-rows : goal.invariant-rows
invariant-rows l = l.more ≡ l.initial.more ++ map (λ bits. l.bit ∷ bits) (take l.i l.rows)
