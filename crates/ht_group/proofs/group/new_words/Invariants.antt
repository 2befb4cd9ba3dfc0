use Rattle.std.proofs.Common.{◌≡◌, ◌<◌, ℕ, length, get_or}
use Rattle.ht_group.specs.MachineWords.{IsBare}
use Rattle.ht_group.specs.declared.machines.Machines.{Machines}
use Rattle.ht_group.proofs.group.new_words.Given as goal

abbrev pub invariant-loop-w : goal.invariant-loop-w
invariant-loop-w l = record {
  count : length l.words.items ≡ l.w;
  each : (v : ℕ) (d : Machines) → v < l.w → IsBare l.circuit (get_or l.words.items v d);
}
