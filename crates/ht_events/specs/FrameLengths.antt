-- How many frames there are, and the frame of an item by the reciprocal of a frame's length.
use Rattle.std.specs.Prelude.{◌≡◌, ◌<◌, ◌*◌, ◌/◌, ℕ}

-- the most frames: the longest window of a search
abbrev pub max_frames : ℕ
max_frames = 447

-- by so much the reciprocal of a frame's length is scaled: 2^41
abbrev pub scale : ℕ
scale = 2199023255552

-- the product of an item and the reciprocal, scaled back, is the item divided by the frame's length
abbrev pub IsReciprocal : ℕ → ℕ → Type 0
IsReciprocal n reciprocal = (x : ℕ) → x < max_frames * n → x * reciprocal / scale ≡ x / n
