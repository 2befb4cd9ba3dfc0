-- A walk down the arguments of gates: which gates have their levels, and the path to the gate that is looked at.
use Rattle.std.specs.Prelude.{◌≡◌, ◌≢◌, ℕ, List, Bool, true, false, ◌-◌, ◌+◌, ◌^◌, ◌<◌, ◌≤◌, suc, cond, eqb, length, get_or}
use Rattle.std.specs.List.{sum_by}
use Rattle.ht_net.specs.declared.net.NetId.{NetId}
use Rattle.ht_net.specs.declared.levels.LevelWalk.TheInside.{Inside}
use Rattle.ht_net.specs.Circuit.Netlist.{Gate, no_net, args_of}
use Rattle.ht_net.specs.Circuit.GateLevels.{AreKnown, highest_level}
use Rattle.ht_net.specs.Circuit.Lists.{AllDiffer}
use Rattle.ht_net.specs.Circuit.Cycle.{ReadsGate}

-- 1 for a level that is open
abbrev pub one_if_zero : ℕ → ℕ
one_if_zero n = cond (eqb n 0) 1 0

-- how many gates have no level yet
abbrev pub open_count : List ℕ → ℕ
open_count levels = sum_by one_if_zero levels

-- 1 for a gate that is not seen yet
abbrev pub one_if_unseen : Bool → ℕ
one_if_unseen seen = cond seen 0 1

-- how many gates are not seen yet
abbrev pub unseen_count : List Bool → ℕ
unseen_count seen = sum_by one_if_unseen seen

-- the last gate of a path
pub record IsPathEnd (path : List ℕ) (gate : ℕ) : Type 0 where
  pub some : 0 < length path
  pub is : get_or path (length path - 1) 0 ≡ gate

-- each argument that is a gate has a level
pub record AreReady (first : ℕ) (levels : List ℕ) (args : List NetId) : Type 0 where
  pub ready : (i : ℕ) → i < length args → first ≤ (get_or args i no_net).0
      → get_or levels ((get_or args i no_net).0 - first) 0 ≢ 0

-- Of the levels so far: those that are given are right, and none is greater than the number of levels given.
pub record IsPartly (first : ℕ) (gates : List Gate) (levels : List ℕ) : Type 0 where
  pub count : length levels ≡ length gates
  pub ready : (g : ℕ) → g < length gates → get_or levels g 0 ≢ 0
      → AreReady first levels (args_of gates g)
  pub exact : (g : ℕ) → g < length gates → get_or levels g 0 ≢ 0 → get_or levels g 0
      ≡ suc (highest_level first levels (args_of gates g))
  pub bounded : (g : ℕ) → g < length gates → get_or levels g 0 + open_count levels ≤ length gates

-- Each gate on the path was seen, has no level, and reads the next one; each gate that was seen and has no level is on
-- it, and one that was not seen has no level.
pub record IsPath (first : ℕ) (gates : List Gate) (levels : List ℕ) (seen : List Bool)
    (path : List ℕ) : Type 0 where
  pub count : length seen ≡ length gates
  pub known : (k : ℕ) → k < length path → get_or path k 0 < length gates
  pub marked : (k : ℕ) → k < length path → get_or seen (get_or path k 0) false ≡ true
  pub unlevelled : (k : ℕ) → k < length path → get_or levels (get_or path k 0) 0 ≡ 0
  pub distinct : AllDiffer path
  pub reads : (k : ℕ) → k + 1 < length path
      → ReadsGate first gates (get_or path k 0) (get_or path (k + 1) 0)
  pub unseen : (g : ℕ) → g < length gates → get_or seen g false ≡ false → get_or levels g 0 ≡ 0
  pub on_path : (g : ℕ) → g < length gates → get_or seen g false ≡ true
      → get_or levels g 0 ≡ 0 → (k : ℕ) × (k < length path) × (get_or path k 0 ≡ g)

-- the net of the first gate, the gates, the path to the gate that is looked at, the levels, and which gates were seen
pub record LevelWalkState : Type 0 where
  pub first : ℕ
  pub gates : List Gate
  pub path : List ℕ
  pub levels : List ℕ
  pub seen : List Bool

-- What a walk keeps.
pub record KeepsLevels (w : LevelWalkState) : Type 0 where
  pub known : AreKnown w.first w.gates
  pub few : w.first + length w.gates < 2 ^ 32 - 1
  pub partly : IsPartly w.first w.gates w.levels
  pub is_path : IsPath w.first w.gates w.levels w.seen w.path

-- the walk has seen a gate
abbrev pub IsVisited : LevelWalkState → ℕ → Type 0
IsVisited w g = get_or w.seen g false ≡ true

-- a gate that a walk may go on to: it wasn't seen, and the last gate of the path, if there is one, reads it
pub record MayJoin (w : LevelWalkState) (gate : ℕ) : Type 0 where
  pub known : gate < length w.gates
  pub new : ¬ IsVisited w gate
  pub reads : (end : ℕ) → IsPathEnd w.path end → ReadsGate w.first w.gates end gate

-- a walk over the same gates, which has seen the gates that another has seen
pub record IsLaterWalk (before after : LevelWalkState) : Type 0 where
  pub first : after.first ≡ before.first
  pub gates : after.gates ≡ before.gates
  pub seen : (g : ℕ) → IsVisited before g → IsVisited after g

-- how many steps a walk still has at the most
abbrev pub left_count : LevelWalkState → ℕ
left_count w = open_count w.levels + unseen_count w.seen

-- what the fields of a walk stand for
abbrev pub level_walk_of : Inside → LevelWalkState
level_walk_of a = record {
  first = a.first;
  gates = a.gates.now;
  path = a.path.items;
  levels = a.levels.items;
  seen = a.seen.items;
}

-- what the fields of a walk keep
abbrev pub IsLevelWalk : Inside → Type 0
IsLevelWalk a = KeepsLevels (level_walk_of a)
