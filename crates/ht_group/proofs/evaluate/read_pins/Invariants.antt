use Rattle.std.proofs.Common.{◌≡◌, ◌<◌, ℕ, length, get_or}
use Rattle.ht_net.specs.Circuit.Netlist.{no_net}
use Rattle.ht_group.specs.LaneRules.{lane_env}
use Rattle.ht_group.proofs.evaluate.read_pins.Given as goal

abbrev pub invariant-loop-i : goal.invariant-loop-i
invariant-loop-i l = record {
  room : length l.pins ≡ 256;
  read : (i k : ℕ) → i < l.i → lane_env k l.pins i ≡ lane_env k l.words (get_or l.args i no_net).0;
}
