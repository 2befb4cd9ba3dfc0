-- Numbers of frames while they are found, nearest first.
use Rattle.std.specs.Prelude.{◌≡◌, ◌<◌, ◌≤◌, ◌+◌, ◌⊎◌, ℕ, List, cond, ltb, length, get_or}
use Rattle.std.specs.List.{Contains, sum_by}
use Rattle.ht_net.specs.Circuit.Netlist.{Netlist}
use Rattle.ht_events.specs.FrameLengths.{max_frames}
use Rattle.ht_relevant.specs.declared.way.Way.{Way}
use Rattle.ht_relevant.specs.declared.distances.Distances.TheInside.{Inside}
use Rattle.ht_relevant.specs.Steps.{LeadsWithin, LeadsOn}

-- how many frames there are, the distance that is gone through, a number for each net, and the nets that aren't followed
-- yet: of this distance, and one frame on
pub record DistanceState : Type 0 where
  pub frames : ℕ
  pub distance : ℕ
  pub numbers : List ℕ
  pub here : List ℕ
  pub next : List ℕ

-- the number of net x: as many as there are frames where it has none
abbrev pub number_of : DistanceState → ℕ → ℕ
number_of s x = get_or s.numbers x s.frames

-- the fields as such a state
abbrev pub distances_of : Inside → DistanceState
distances_of a = record {
  frames = a.frames;
  distance = a.distance;
  numbers = a.numbers.items;
  here = a.here.items;
  next = a.next.items;
}

-- No number is above the distance that is gone through, and the nets of this distance have it.
pub record AreDistances (s : DistanceState) : Type 0 where
  pub few : s.frames ≤ max_frames
  pub inside : s.distance < s.frames
  pub most : (x : ℕ) → number_of s x < s.frames → number_of s x ≤ s.distance
  pub here : (x : ℕ) → Contains s.here x → number_of s x ≡ s.distance
  pub next : (x : ℕ) → Contains s.next x → x < length s.numbers

-- 1 where a net has no number yet
abbrev pub if_none : ℕ → ℕ → ℕ
if_none frames number = cond (ltb number frames) 0 1

-- how much is left to do: nets without a number, and nets of this distance that aren't followed
abbrev pub left_to_do : DistanceState → ℕ
left_to_do s = sum_by (if_none s.frames) s.numbers + length s.here

-- No number has risen.
pub record IsLower (s t : DistanceState) : Type 0 where
  pub frames : t.frames ≡ s.frames
  pub count : length t.numbers ≡ length s.numbers
  pub lower : (x : ℕ) → number_of t x ≤ number_of s x

-- More nets have numbers, and each of them is to be followed.
pub record HasGrown (s t : DistanceState) : Type 0 where
  pub lower : IsLower s t
  pub distance : t.distance ≡ s.distance
  pub kept : (x : ℕ) → number_of s x < s.frames → number_of t x ≡ number_of s x
  pub new : (x : ℕ) → number_of t x < s.frames → (number_of s x < s.frames) ⊎ Contains t.here x
  pub waits : (x : ℕ) → Contains s.here x → Contains t.here x
  pub later : (x : ℕ) → Contains s.next x → Contains t.next x
  pub left : left_to_do t ≡ left_to_do s

-- Net x is followed: where the way leads within the frame has a number, and where it leads one frame on is to get one.
pub record IsFollowed (c : Netlist) (way : Way) (s : DistanceState) (x : ℕ) : Type 0 where
  pub within : (y : ℕ) → LeadsWithin c way x y → number_of s y ≤ s.distance
  pub on : (y : ℕ) → LeadsOn c way x y → Contains s.next y

-- Each net with a number is followed, or is still to be. What is to get a number one frame on is led to by nets with this
-- number at least.
pub record AreFollowed (c : Netlist) (way : Way) (least : ℕ) (s : DistanceState) : Type 0 where
  pub within : (x y : ℕ) → LeadsWithin c way x y → number_of s x < s.frames
      → (number_of s y ≤ number_of s x) ⊎ Contains s.here x
  pub on : (x y : ℕ) → LeadsOn c way x y → number_of s x + 1 < s.frames
      → ((number_of s y ≤ number_of s x + 1) ⊎ (Contains s.next y × (least ≤ number_of s x))) ⊎ Contains s.here x
