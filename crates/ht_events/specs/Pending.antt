-- Items that are pending.
use Rattle.std.specs.Prelude.{◌≡◌, ◌<◌, ℕ, List, Bool, true, false, length, get_or}
use Rattle.std.specs.List.{count_by, range_with_len}
use Rattle.ht_events.specs.Items.{item_count}
use Rattle.ht_events.specs.Plans.{PlanState, position_at}
use Rattle.ht_events.specs.declared.event_core.Core.TheInside.{Inside}

-- what a core knows: its plan, and a mark for each position in the order of all items
pub record CoreState : Type 0 where
  pub plan : PlanState
  pub marks : List Bool

-- how many items a core has
abbrev pub core_items : CoreState → ℕ
core_items s = item_count s.plan.circuit s.plan.frames

-- the item that stands at a position is pending
abbrev pub IsPendingAt : CoreState → ℕ → Type 0
IsPendingAt s p = get_or s.marks p false ≡ true

-- whether an item is pending: its position is marked
abbrev pub pends : CoreState → ℕ → Bool
pends s item = get_or s.marks (position_at s.plan item) false

-- an item is pending
abbrev pub IsPending : CoreState → ℕ → Type 0
IsPending s item = pends s item ≡ true

-- how many items are pending
abbrev pub pending_count : CoreState → ℕ
pending_count s = count_by (pends s) (range_with_len 0 (core_items s))

-- every item that isn't pending agrees
abbrev pub QuietAgree : CoreState → (ℕ → Type 0) → Type 0
QuietAgree s agrees = (x : ℕ) → x < core_items s → ¬ IsPending s x → agrees x

-- the fields of a core as what it knows
abbrev pub core_of : Inside → CoreState
core_of a = record { plan = a.plan; marks = a.marks }

-- there is a mark for each item
pub record IsCore (a : Inside) : Type 0 where
  pub count : length a.marks ≡ item_count a.plan.circuit a.plan.frames
