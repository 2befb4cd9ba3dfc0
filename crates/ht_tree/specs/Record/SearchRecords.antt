-- What a search leaves that found nothing: a complete walk, or an open one that fills its budget. The sweep leaves one
-- walk for each number of frames.
use Rattle.std.specs.Prelude.{◌<◌, ◌≤◌, ◌+◌, ◌-◌, ℕ, List, [], ◌∷◌, length, get_or}
use Rattle.ht_net.specs.declared.fault.Fault.{Fault}
use Rattle.ht_net.specs.Circuit.Netlist.{Netlist}
use Rattle.ht_tree.specs.declared.token.Token.{Token}
use Rattle.ht_tree.specs.Walk.Walks.{IsComplete, IsOpen, weight_of}
use Rattle.ht_tree.specs.Window.Windows.{SearchWindow, sweep_window, token_weight}
use Rattle.ht_tree.specs.Window.Nodes.{judge_of}

-- A weight fills a budget: it is within it, and one more token of a unit isn't.
pub record Fills (budget unit weight : ℕ) : Type 0 where
  pub within : weight ≤ budget
  pub full : budget < weight + unit

-- The walk of a search that spent its budget on a window: it is open, and fills the budget.
pub record IsSpentWalk (w : SearchWindow) (budget : ℕ) (tokens : List Token) : Type 0 where
  pub walk : IsOpen (judge_of w) tokens
  pub fills : Fills budget (token_weight w) (weight_of (token_weight w) tokens)

-- what the walks of a sweep weigh, the first of a window of so many frames: each token weighs the frames of its window
abbrev pub sweep_weight : ℕ → List (List Token) → ℕ
sweep_weight frames [] = 0
sweep_weight frames (walk ∷ walks) = weight_of frames walk + sweep_weight (frames + 1) walks

-- A sweep record: walks of the windows of 1 frame, 2 frames and so on, all complete but the last, which is open, and
-- together they fill the budget.
pub record IsSweepRecord (c : Netlist) (fault : Fault) (budget : ℕ) (walks : List (List Token)) : Type 0 where
  pub complete : (k : ℕ) → k + 1 < length walks
      → IsComplete (judge_of (sweep_window c fault (k + 1))) (get_or walks k [])
  pub unfinished : IsOpen (judge_of (sweep_window c fault (length walks))) (get_or walks (length walks - 1) [])
  pub fills : Fills budget (length walks) (sweep_weight 1 walks)
