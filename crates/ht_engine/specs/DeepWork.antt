-- The deep work on one fault: beside what the plain work does, it looks for a family that closes, and sweeps on from the
-- states that the vectors so far lead to.
use Rattle.std.specs.Prelude.{◌≡◌, ◌≢◌, ◌⊎◌, ◌<◌, ◌++◌, ℕ, List, Bool, Option, Some, None, length}
use Rattle.std.specs.List.{All}
use Rattle.ht_tern.specs.declared.tern.Tern.{Tern}
use Rattle.ht_pairs.specs.Pairs.{set_of}
use Rattle.ht_net.specs.declared.fault.Fault.{Fault}
use Rattle.ht_net.specs.Circuit.Netlist.{Netlist}
use Rattle.ht_net.specs.Frames.Rows.{Rows}
use Rattle.ht_net.specs.Detect.Detection.{DetectsFrom, state_from}
use Rattle.ht_tree.specs.declared.entry.Entry.{Entry}
use Rattle.ht_tree.specs.declared.entry.Entry.TheVariants.{Untestable, UntestableFrom, UndetectableBySets}
use Rattle.ht_tree.specs.declared.family_row.FamilyRow.{FamilyRow}
use Rattle.ht_tree.specs.declared.token.Token.{Token}
use Rattle.ht_tree.specs.declared.told.Told.{Told}
use Rattle.ht_tree.specs.Record.ClosedFamilies.{Closes, Family}
use Rattle.ht_tree.specs.Record.Entries.{Passes}
use Rattle.ht_tree.specs.Record.FamilyRows.{dffs_of, family_of, start_set}
use Rattle.ht_tree.specs.Record.Reached.{AreVectors}
use Rattle.ht_tree.specs.Record.Rising.{Rises}
use Rattle.ht_tree.specs.Window.Windows as window
use Rattle.ht_families.specs.Families.{IsLeastClosing}
use Rattle.ht_events.specs.Plans.{max_frames}
use Rattle.ht_forward.specs.declared.sweeping.Swept.TheVariants as swept
use Rattle.ht_forward.specs.AheadSearches.{IsListAhead}
use Rattle.ht_forward.specs.Sweeps.{IsSweptFrom}
use Rattle.ht_invariant.specs.declared.finding.Invariant.{Invariant}
use Rattle.ht_engine.specs.declared.settings.Search.{Search}
use Rattle.ht_engine.specs.declared.settings.Search.TheVariants.{Plain, Deep}
use Rattle.ht_engine.specs.declared.settings.Settings.{Settings}
use Rattle.ht_engine.specs.declared.work.Work.{Work}
use Rattle.ht_engine.specs.declared.work.Work.TheVariants as work
use Rattle.ht_engine.specs.Attempts.{DetectsAlways}
use Rattle.ht_engine.specs.FaultWork.{IsListWork, IsWork, LeavesOpen, StaysOpen}

-- ---- families that close

-- No family closes for the fault and the start.
abbrev pub NoneCloses : Netlist → Fault → List Tern → Type 0
NoneCloses c fault start = (family : Family) → ¬ Closes c fault start family

-- The rows are those of the least family that closes for the fault and the start: a row for each flip-flop whose set
-- isn't the start's pair alone, with its members in order.
pub record AreLeastRows (c : Netlist) (fault : Fault) (start : List Tern) (rows : List FamilyRow) : Type 0 where
  pub rises : Rises (dffs_of rows)
  pub known : All (λ row. row.dff < length c.dffs) rows
  pub least : IsLeastClosing c fault start (family_of start rows)
  pub more : All (λ row. row.set ≢ start_set start row.dff) rows
  pub listed : All (λ row. row.set ≡ set_of row.set) rows

-- The rounds of refutation leave the fault open, and the rows are those of the least family that closes.
pub record IsRefutedBySets (c : Netlist) (fault : Fault) (settings : Settings) (rows : List FamilyRow)
    : Type 0 where
  pub told : List Told
  pub walk : Option (List Token)
  pub rounds : LeavesOpen c fault settings.budget told walk
  pub rows_are : AreLeastRows c fault settings.start rows

-- ---- the sweep from the states reached

-- The pair of states to which vectors lead the good and the faulty machine from the start.
abbrev pub states_reached : Netlist → Fault → List Tern → List (List Bool) → window.Start
states_reached c fault start before =
    window.state_pair (state_from c None start before) (state_from c (Some fault) start before)

-- The sweep from a pair of states, with a budget of its own, finds the list.
abbrev pub FindsOn : Netlist → Fault → ℕ → window.Start → Rows → Type 0
FindsOn c fault budget states list = IsSweptFrom c fault states budget (swept.Found list)

-- The sweep from a pair of states spends its budget.
abbrev pub SpendsOn : Netlist → Fault → ℕ → window.Start → Type 0
SpendsOn c fault budget states = (walks : List (List Token)) × IsSweptFrom c fault states budget (swept.Spent walks)

-- What the sweep from a pair of states gives, after the work before it gave up with this entry: the list that it finds,
-- or that entry where it spends its budget.
abbrev pub IsWorkOnward : Netlist → Fault → ℕ → window.Start → Entry → Work → Type 0
IsWorkOnward c fault budget states entry (work.List list) = FindsOn c fault budget states list
IsWorkOnward c fault budget states entry (work.Entry given) = (given ≡ entry) × SpendsOn c fault budget states

-- The attempt and the sweep from all-unknown give the fault up, and the sweep from these states finds the list.
pub record IsFoundOn (c : Netlist) (fault : Fault) (budget : ℕ) (states : window.Start) (list : Rows)
    : Type 0 where
  pub entry : Entry
  pub gives_up : IsListWork c fault budget (work.Entry entry)
  pub found : FindsOn c fault budget states list

-- ---- the work

-- What the deep work gives on a fault that the rounds of refutation leave open, where these states are reached: the
-- entry of the least family that closes; where none closes, the list that the attempt or the sweep from all-unknown
-- finds, or else the sweep from the states reached; and where that spends its budget too, the entry of a fault that is
-- given up.
abbrev pub IsOpenWork : Netlist → Fault → Settings → window.Start → Work → Type 0
IsOpenWork c fault settings states (work.List list) = NoneCloses c fault settings.start
    × (IsListWork c fault settings.budget (work.List list) ⊎ IsFoundOn c fault settings.budget states list)
IsOpenWork c fault settings states (work.Entry (UndetectableBySets rows)) = IsRefutedBySets c fault settings rows
IsOpenWork c fault settings states (work.Entry entry) = NoneCloses c fault settings.start
    × IsListWork c fault settings.budget (work.Entry entry) × SpendsOn c fault settings.budget states

-- What the deep work on a fault gives: the entry of a fault that the rounds of refutation refute, as in the plain work;
-- and where these don't, what it gives on one that they leave open.
abbrev pub IsDeepWork : Netlist → Fault → Settings → window.Start → Invariant → Work → Type 0
IsDeepWork c fault settings states invariant (work.Entry (Untestable z tokens)) =
    IsWork c fault settings.budget invariant (work.Entry (Untestable z tokens))
IsDeepWork c fault settings states invariant (work.Entry (UntestableFrom state clauses z tokens)) =
    IsWork c fault settings.budget invariant (work.Entry (UntestableFrom state clauses z tokens))
IsDeepWork c fault settings states invariant w =
    StaysOpen c fault settings.budget invariant.clauses × IsOpenWork c fault settings states w

-- What the work on a fault gives after some vectors, by the kind of search: only the deep work looks at the states to
-- which they lead.
abbrev pub IsWorkBy : Search → Netlist → Fault → Settings → List (List Bool) → Invariant → Work → Type 0
IsWorkBy Plain c fault settings before invariant w = IsWork c fault settings.budget invariant w
IsWorkBy Deep c fault settings before invariant w =
    IsDeepWork c fault settings (states_reached c fault settings.start before) invariant w

-- ---- what it means

-- What the deep work means, where these states are reached: the list that the plain work finds detects the fault from
-- every start after any vectors; that of the sweep from the states reached shows their difference at its last vector;
-- and the entry passes.
abbrev pub DeepWorkHolds : Netlist → Fault → Settings → List Tern → List Tern → Work → Type 0
DeepWorkHolds c fault settings good faulty (work.List list) =
    DetectsAlways c fault list ⊎ IsListAhead c max_frames fault good faulty list
DeepWorkHolds c fault settings good faulty (work.Entry entry) = Passes c settings.start fault settings.budget entry

-- A list that detects the fault from the start after these vectors.
pub record DetectsAfter (c : Netlist) (fault : Fault) (start : List Tern) (before : List (List Bool)) (list : Rows)
    : Type 0 where
  pub wide : AreVectors c list.list
  pub width : list.width ≡ c.inputs
  pub vector : ℕ
  pub output : ℕ
  pub detects : DetectsFrom c fault start (before ++ list.list) vector output

-- A list shows a difference from these states.
abbrev pub ShowsOn : Netlist → Fault → List Tern → List Tern → Work → Type 0
ShowsOn c fault good faulty (work.List list) = IsListAhead c max_frames fault good faulty list
ShowsOn c fault good faulty (work.Entry entry) = Unit {0}

-- What the work on a fault means after some vectors, of either kind of search: the list detects the fault from the
-- start after them, the entry passes.
abbrev pub HoldsAfter : Netlist → Fault → Settings → List (List Bool) → Work → Type 0
HoldsAfter c fault settings before (work.List list) = DetectsAfter c fault settings.start before list
HoldsAfter c fault settings before (work.Entry entry) = Passes c settings.start fault settings.budget entry
