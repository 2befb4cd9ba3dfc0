use Rattle.std.proofs.Common.{◌≡◌, ◌<◌, ℕ, false, not, length, get_or}
use Rattle.ht_tern.specs.declared.tern.Tern.TheVariants.{Unk}
use Rattle.ht_pairs.specs.Pairs.{same_tern}
use Rattle.ht_window.proofs.restrict.differences.Given as goal

abbrev pub invariant-loop-j : goal.invariant-loop-j
invariant-loop-j l = record {
  count : length l.marks.items ≡ l.j;
  is : (k : ℕ) → k < l.j → get_or l.marks.items k false ≡ not (same_tern (get_or l.good k Unk) (get_or l.bad k Unk));
}
