use Rattle.std.proofs.Common.{◌≡◌, ◌<◌, ℕ, length, get_or}
use Rattle.ht_group.specs.MachineWords.{HasWordRoom, IsBare}
use Rattle.ht_group.specs.declared.machines.Machines.{Machines}
use Rattle.ht_group.proofs.group.begin_words.Given as goal

abbrev pub invariant-loop-w : goal.invariant-loop-w
invariant-loop-w l = record {
  count : length l.words ≡ length l.fn.words;
  done : (v : ℕ) (d : Machines) → v < l.w → IsBare l.circuit (get_or l.words v d);
  room : (v : ℕ) (d : Machines) → v < length l.words → HasWordRoom l.circuit (get_or l.words v d);
}
