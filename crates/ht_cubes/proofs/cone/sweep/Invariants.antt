use Rattle.std.proofs.Common.{◌<◌, ℕ, get_or}
use Rattle.ht_cubes.specs.declared.cone.Reader.TheVariants.{Gate, Dff}
use Rattle.ht_cubes.specs.Cones.{CloseGates, Closes, HaveGrown, IsSwept}
use Rattle.ht_cubes.proofs.cone.sweep.Given as goal

abbrev pub invariant-gates : goal.invariant-gates
invariant-gates l = record {
  grown : HaveGrown l.circuit l.initial.marks l.marks;
  swept : IsSwept ((k : ℕ) → k < l.g-index → Closes l.circuit (Gate (get_or l.order k 0)) l.marks)
      l.initial.marks l.marks l.changed;
}

abbrev pub invariant-dffs : goal.invariant-dffs
invariant-dffs l = record {
  grown : HaveGrown l.circuit l.fn.marks l.marks;
  swept : IsSwept (CloseGates l.circuit l.marks × ((k : ℕ) → k < l.j → Closes l.circuit (Dff k) l.marks))
      l.fn.marks l.marks l.changed;
}
