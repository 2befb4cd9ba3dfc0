use Rattle.std.proofs.Common.{◌≡◌, ◌<◌, ◌≤◌, ◌+◌, ◌-◌, ℕ}
use Rattle.ht_tree.specs.Window.Windows.{pair_set_rules}
use Rattle.ht_recompute.specs.GateSets.{AreQuietSettled, sets_of}
use Rattle.ht_recompute.proofs.net_sets.drive.Given as goal

abbrev pub invariant-loop-j : goal.invariant-loop-j
invariant-loop-j l = record {
  quiet : AreQuietSettled l.under.circuit.now l.under.schedule.now l.under.fault l.pending l.values;
  driven : (x : ℕ) → l.first ≤ x → x < l.first + l.j
      → sets_of l.values x ≡ (pair_set_rules l.under.fault).stem x (sets_of l.sources (x - l.first));
  below : (x : ℕ) → x < l.first → sets_of l.values x ≡ sets_of l.initial.values x;
}
