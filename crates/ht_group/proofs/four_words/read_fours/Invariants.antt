use Rattle.std.proofs.Common.{◌≡◌, ◌<◌, ℕ, [], length, get_or}
use Rattle.ht_lanes.specs.Lanes.{word_at}
use Rattle.ht_net.specs.Circuit.Netlist.{no_net}
use Rattle.ht_group.specs.declared.machines.Machines.{Machines}
use Rattle.ht_group.proofs.four_words.read_fours.Given as goal

abbrev pub invariant-loop-i : goal.invariant-loop-i
invariant-loop-i l = record {
  room : length l.fours ≡ 256;
  read : (i w : ℕ) (d : Machines) → i < l.i → w < 4 → word_at (get_or l.fours i []) w
      ≡ word_at (get_or l.words w d).nets.words (get_or l.args i no_net).0;
}
