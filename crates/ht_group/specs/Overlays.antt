-- Words that lie over values of the good machine.
use Rattle.std.specs.Prelude.{◌≡◌, ◌<◌, ℕ, List, get_or}
use Rattle.ht_tern.specs.declared.tern.Tern.{Tern}
use Rattle.ht_tern.specs.declared.tern.Tern.TheVariants.{Unk}
use Rattle.ht_lanes.specs.Lanes.{Lanes}
use Rattle.ht_group.specs.LaneRules.{in_lane, lane_env}

-- values of the good machine, and a word for each
pub record OverlayView : Type 0 where
  pub good : List Tern
  pub words : List Lanes

-- word x has its good value in every lane
abbrev pub IsGoodWord : List Tern → List Lanes → ℕ → Type 0
IsGoodWord good words x = (k : ℕ) → k < 64 → lane_env k words x ≡ get_or good x Unk

-- each word over these values has its good value in every lane
pub record IsSpread (values : List Tern) (overlay : OverlayView) : Type 0 where
  pub good : overlay.good ≡ values
  pub lanes : (k : ℕ) → k < 64 → in_lane k overlay.words ≡ values
