-- What a gate waits for.
use Rattle.std.specs.Prelude.{◌≡◌, ℕ, List, ◌+◌, ◌<◌, suc, length, get_or}
use Rattle.ht_net.specs.declared.net.NetId.{NetId}
use Rattle.ht_net.specs.declared.levels.Readiness.{Readiness}
use Rattle.ht_net.specs.declared.levels.Readiness.TheVariants.{Level, Gate}
use Rattle.ht_net.specs.Circuit.Netlist.{no_net}
use Rattle.ht_net.specs.Circuit.GateLevels.{highest_level}
use Rattle.ht_net.specs.Circuit.LevelWalk.{AreReady}

-- a gate among the arguments that has no level
pub record IsWaiting (first : ℕ) (levels : List ℕ) (args : List NetId) (gate : ℕ) : Type 0 where
  pub pin : ℕ
  pub is_pin : pin < length args
  pub reads : (get_or args pin no_net).0 ≡ first + gate
  pub unlevelled : get_or levels gate 0 ≡ 0

-- each argument that is a gate has a level, and this one is one above the highest
pub record HasLevel (first : ℕ) (levels : List ℕ) (args : List NetId) (level : ℕ) : Type 0 where
  pub ready : AreReady first levels args
  pub exact : level ≡ suc (highest_level first levels args)

-- whether a gate has its level now, or waits for one of its arguments
abbrev pub IsReadiness : ℕ → List ℕ → List NetId → Readiness → Type 0
IsReadiness first levels args (Level level) = HasLevel first levels args level
IsReadiness first levels args (Gate gate) = IsWaiting first levels args gate
