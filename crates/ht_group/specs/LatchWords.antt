-- The latches of a lane that has the good ones but for differences.
use Rattle.std.specs.Prelude.{◌≡◌, ◌≢◌, ◌<◌, ℕ, List, Bool, true, false, length, get_or, take, drop}
use Rattle.ht_lanes.specs.Lanes.{Lanes}
use Rattle.ht_group.specs.declared.diffs.Diff.{Diff}
use Rattle.ht_group.specs.Differences.{with_differences}
use Rattle.ht_net.specs.Circuit.Netlist.{Netlist, first_gate_net, net_count}
use Rattle.ht_group.specs.LaneRules.{in_lane, lane_env}
use Rattle.ht_group.specs.Overlays.{OverlayView}
use Rattle.ht_events.specs.declared.schedule.Schedule.{Schedule}

-- Lane k, which had the good sources, has the latches that differ so, and the other lanes are as before. A net whose
-- source is another word is pending, and so is what was.
pub record HasDifferences (c : Netlist) (s : Schedule) (k : ℕ) (diffs : List Diff) (old : OverlayView)
    (before : List Bool)
    (words : List Lanes) (pending : List Bool) : Type 0 where
  pub count : length words ≡ first_gate_net c
  pub marks : length pending ≡ net_count c
  pub inputs : take c.inputs (in_lane k words) ≡ take c.inputs old.good
  pub latches : drop c.inputs (in_lane k words) ≡ with_differences (drop c.inputs old.good) diffs
  pub others : (n : ℕ) → n < 64 → n ≢ k → in_lane n words ≡ in_lane n old.words
  pub more : (r : ℕ) → get_or before r false ≡ true → get_or pending r false ≡ true
  pub quiet : (n r : ℕ) → n < 64 → r < net_count c → get_or pending r false ≡ false
      → lane_env n words (get_or s.order.items r 0) ≡ lane_env n old.words (get_or s.order.items r 0)
