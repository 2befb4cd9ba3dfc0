use Rattle.std.proofs.Common.{◌≡◌, ◌<◌, ◌+◌, ℕ, get_or, None}
use Rattle.ht_tern.specs.declared.tern.Tern.TheVariants.{Unk}
use Rattle.ht_tree.specs.Window.Nodes.{or_unknown}
use Rattle.ht_recompute.proofs.cube.write_cube.Given as goal

abbrev pub invariant-loop-j : goal.invariant-loop-j
invariant-loop-j l = (k : ℕ) → k < l.j → get_or l.cube k Unk ≡ or_unknown (get_or l.decisions (l.first + k) None)
