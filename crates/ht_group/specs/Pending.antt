-- Nets that are pending, and nets that have their value.
use Rattle.std.specs.Prelude.{◌≡◌, ◌≢◌, ◌<◌, ℕ, List, Bool, true, false, length, get_or}
use Rattle.ht_tern.specs.declared.tern.Tern.{Tern}
use Rattle.ht_lanes.specs.Lanes.{Lanes}
use Rattle.ht_net.specs.declared.fault.Fault.{Fault}
use Rattle.ht_net.specs.Circuit.Netlist.{Netlist, net_count}
use Rattle.ht_group.specs.LaneRules.{rules_at, in_lane, lane_env, given_value, HasItsValue}
use Rattle.ht_events.specs.Schedules.{ReadsFrom}
use Rattle.ht_events.specs.declared.schedule.Schedule.{Schedule}

-- each net whose rank isn't pending has, in each lane, the value that its driver and its stem give it
abbrev pub QuietHaveValues : Netlist → Schedule → List Fault → List Lanes → List Bool → List Lanes → Type 0
QuietHaveValues c s faults sources pending words = (k r : ℕ) → k < 64 → r < net_count c → get_or pending r false ≡ false
    → HasItsValue c (rules_at faults k) (in_lane k sources) (lane_env k words) (get_or s.order.items r 0)

-- these are the values that its driver and its stem give a net in the lanes
abbrev pub AreGiven : Netlist → List Fault → List Lanes → List Lanes → ℕ → (ℕ → Tern) → Type 0
AreGiven c faults sources words x values = (k : ℕ) → k < 64
    → values k ≡ given_value c (rules_at faults k) (in_lane k sources) (lane_env k words) x

-- The net of a rank was evaluated: it is pending no more, and where its value changed the nets that read it are.
pub record IsFired (c : Netlist) (s : Schedule) (rank : ℕ) (changed : Bool) (before pending : List Bool) : Type 0 where
  pub marks : length pending ≡ length before
  pub taken : get_or pending rank false ≡ false
  pub earlier : (r : ℕ) → r < rank → get_or pending r false ≡ get_or before r false
  pub idle : (r : ℕ) → r ≢ rank → get_or pending r false ≡ false → get_or before r false ≡ false
  pub apart : changed ≡ true → (r : ℕ) → r < net_count c → get_or pending r false ≡ false
      → ¬ ReadsFrom c (get_or s.order.items r 0) (get_or s.order.items rank 0)
