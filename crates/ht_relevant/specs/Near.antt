-- A number of frames for each net, in the place of a mark for each net of each frame.
use Rattle.std.specs.Prelude.{◌+◌, ℕ, suc, List, Bool, ltb, get_or}

-- a number of frames, and how many before the last one each net is read at the latest by a place in reach
pub record RelevantState : Type 0 where
  pub frames : ℕ
  pub near : List ℕ

-- net x of frame f matters: it is near enough to the last frame
abbrev pub matters : RelevantState → ℕ → ℕ → Bool
matters r f x = ltb (f + get_or r.near x r.frames) r.frames

-- a difference that is so many frames away may have come to net x in frame f
abbrev pub has_come : (ℕ → ℕ) → ℕ → ℕ → Bool
has_come away f x = ltb (away x) (suc f)
