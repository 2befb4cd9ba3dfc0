-- What the search for a shortest list that synchronizes answers, and what that means.
use Rattle.std.specs.Prelude.{◌≡◌, ◌<◌, ◌≤◌, ◌+◌, ◌-◌, ℕ, List, [], Bool, length, get_or}
use Rattle.ht_net.specs.Circuit.Netlist.{Netlist}
use Rattle.ht_net.specs.Frames.Rows.{Rows}
use Rattle.ht_events.specs.Plans.{max_frames}
use Rattle.ht_tree.specs.declared.token.Assign3.{Assign3}
use Rattle.ht_tree.specs.declared.token.Token.{Token}
use Rattle.ht_tree.specs.Walk.Budgets.{sweep_cost}
use Rattle.ht_tree.specs.Walk.FoundLists.{list_of}
use Rattle.ht_tree.specs.Record.Reached.{AreVectors}
use Rattle.ht_tree.specs.Walk.Searches.{FindsAt, node_at}
use Rattle.ht_tree.specs.Walk.Walks.{IsComplete}
use Rattle.ht_forward.specs.LengthAnswers.{FindsAfter}
use Rattle.ht_forward.specs.Lengths.{IsLengthRecord, SpendEach}
use Rattle.ht_sync.specs.Synchronizing.{EndsEachRun, Synchronizes, SynchronizesTo}
use Rattle.ht_sync.specs.SyncWindows.{sync_guide}
use Rattle.ht_sync.specs.declared.synchronizing.Synchronized.{Synchronized}
use Rattle.ht_sync.specs.declared.synchronizing.Synchronized.TheVariants.{Found, Spent}

-- A list that the search of so many frames finds: the vectors of its decisions, one for each frame.
pub record FindsSyncList (c : Netlist) (frames budget : ℕ) (list : Rows) : Type 0 where
  pub tokens : List Token
  pub path : List Assign3
  pub found : FindsAt (sync_guide c frames) budget frames tokens (node_at path)
  pub listed : list ≡ record { width = c.inputs; list = list_of c path frames }

-- The search that leads to a list: without a flip-flop the empty list, and else the one of the first length that isn't
-- closed.
pub record SyncFinds (c : Netlist) (budget : ℕ) (list : Rows) (state : List Bool) (walks : List (List Token))
    : Type 0 where
  pub none : length c.dffs ≡ 0 → (walks ≡ []) × (list ≡ record { width = c.inputs; list = [] })
  pub some : 0 < length c.dffs → FindsAfter (sync_guide c) (FindsSyncList c) budget list walks
  pub ends : SynchronizesTo c list.list state

-- The search that leads to no list. A circuit without flip-flops has none.
pub record SyncSpends (c : Netlist) (budget : ℕ) (walks : List (List Token)) : Type 0 where
  pub some : 0 < length c.dffs
  pub spends : SpendEach (sync_guide c) budget walks

-- the searches that lead to each answer
abbrev pub IsSynchronized : Netlist → ℕ → Synchronized → Type 0
IsSynchronized c budget (Found list state walks) = SyncFinds c budget list state walks
IsSynchronized c budget (Spent walks) = SyncSpends c budget walks

-- No list of fewer vectors, of any widths, synchronizes.
abbrev pub NoneShorter : Netlist → ℕ → Type 0
NoneShorter c k = (list : List (List Bool)) → length list < k → ¬ Synchronizes c list

-- A shortest list that synchronizes, with a complete walk for each length from 1 to one less than its own.
pub record IsShortest (c : Netlist) (list : Rows) (state : List Bool) (walks : List (List Token)) : Type 0 where
  pub width : list.width ≡ c.inputs
  pub wide : AreVectors c list.list
  pub few : length list.list ≤ max_frames
  pub ends : SynchronizesTo c list.list state
  pub each : EndsEachRun c list.list state
  pub walked : length walks ≡ length list.list - 1
  pub complete : (k : ℕ) → k < length walks → IsComplete (sync_guide c (k + 1)).judge (get_or walks k [])
  pub none : NoneShorter c (length list.list)

-- A spent record: no list of fewer vectors than it has walks synchronizes.
pub record IsSpentRecord (c : Netlist) (budget : ℕ) (walks : List (List Token)) : Type 0 where
  pub spent : IsLengthRecord (λ k. (sync_guide c k).judge) budget walks
  pub none : NoneShorter c (length walks)

-- what each answer means
abbrev pub SynchronizedHolds : Netlist → ℕ → Synchronized → Type 0
SynchronizedHolds c budget (Found list state walks) = IsShortest c list state walks
SynchronizedHolds c budget (Spent walks) = IsSpentRecord c budget walks

-- a list was found
abbrev pub IsFound : Synchronized → Type 0
IsFound (Found list state walks) = Unit {0}
IsFound (Spent walks) = ⊥

-- Where the budget is enough for d lengths and some list of at most d vectors synchronizes, a list is found.
abbrev pub FindsWithin : Netlist → ℕ → Synchronized → Type 0
FindsWithin c budget answer = (d : ℕ) (list : List (List Bool)) → sweep_cost c.inputs d ≤ budget → length list ≤ d
    → Synchronizes c list → IsFound answer
