-- What the verdict of each listed fault means. A fault has the verdict of its class, which the report gives at the
-- representative.
use Rattle.std.specs.Prelude.{◌≡◌, ◌≢◌, ◌⊎◌, ◌≤◌, ◌<◌, ◌+◌, ℕ, List, Bool, length, get_or, Some, None}
use Rattle.std.specs.List.{Contains}
use Rattle.ht_net.specs.declared.place.Place.{Place}
use Rattle.ht_net.specs.Circuit.Netlist.{Netlist}
use Rattle.ht_net.specs.Detect.Detection.{ApartFrom, Detects, DetectsFrom, IsFirstFrom}
use Rattle.ht_net.specs.Detect.Silence.{Sealed}
use Rattle.ht_faults.specs.Sites.{faults_of}
use Rattle.ht_faults.specs.Classes.{fault_at}
use Rattle.ht_tree.specs.declared.entry.Entry.{Entry}
use Rattle.ht_tree.specs.declared.entry.Entry.TheVariants as entry
use Rattle.ht_tree.specs.declared.kind.EntryKind.{EntryKind}
use Rattle.ht_tree.specs.declared.kind.EntryKind.TheVariants as kinds
use Rattle.ht_tree.specs.Record.AbortRecords.{AbortMeans, AbortView, IsAbortRecord}
use Rattle.ht_tree.specs.Walk.Budgets.{refutation_cost, sweep_cost}
use Rattle.ht_tree.specs.Record.Entries.{AllowsEntry, Means, Passes, kind_of}
use Rattle.ht_texts.specs.declared.said.Said.{Said}
use Rattle.ht_texts.specs.declared.said.Said.TheVariants.{Detected, Untestable, Undetectable, Aborted, Undetected}
use Rattle.ht_texts.specs.Verdicts.{said_at}
use Rattle.ht_valid.specs.ValidFiles.{Content, IsOwn}

-- ---- detected, untestable or undetectable, aborted

-- The written vectors detect the fault from the start, at this place first; and there the good and the faulty machine
-- show opposite bits from every pair of states that the start allows.
pub record IsDetected (c : Netlist) (content : Content) (i : ℕ) (place : Place) : Type 0 where
  pub first : IsFirstFrom c (fault_at c i) content.start content.list (Some place)
  pub apart : ApartFrom c (fault_at c i) content.start content.list place.vector place.output

-- The proofs hold an entry of the representative that passes, in one of the forms of this kind, and the start allows the
-- state that it names. What it means holds of the fault: of the kind untestable, from every common start state both
-- machines give equal outputs for ever, or from the named one; of the kind undetectable, that is not said. And no list of
-- vectors of any length detects the fault, from all-unknown or from the start.
pub record IsProved (kind : EntryKind) (c : Netlist) (content : Content) (representative i : ℕ) : Type 0 where
  pub entry : Entry
  pub held : Contains content.entries (record { number = representative + 1; entry = entry })
  pub kind_is : kind_of entry ≡ kind
  pub passes : Passes c content.start (fault_at c representative) content.budget entry
  pub allowed : AllowsEntry content.start entry
  pub means : Means c content.start (fault_at c i) entry
  pub undetected : (list : List (List Bool)) (t o : ℕ) → ¬ Detects c (fault_at c i) list t o
  pub undetected_from : (list : List (List Bool)) (t o : ℕ) → ¬ DetectsFrom c (fault_at c i) content.start list t o

-- The entry of an aborted fault, as it stands in the proofs.
abbrev pub abort_entry : AbortView → Entry
abort_entry a = entry.Aborted a.told a.walk a.aim a.sweep

-- The fault is aborted: the written vectors don't detect it from the start, and the proofs hold a record of the
-- representative that used up the budget, with what that record means of the representative.
pub record IsAborted (c : Netlist) (content : Content) (representative i : ℕ) : Type 0 where
  pub undetected : IsFirstFrom c (fault_at c i) content.start content.list None
  pub spent : AbortView
  pub held : Contains content.entries (record { number = representative + 1; entry = abort_entry spent })
  pub passes : IsAbortRecord c (fault_at c representative) content.budget spent
  pub means : AbortMeans c (fault_at c representative) spent

-- ---- one verdict for each fault

-- What it means that this is said of fault i and its representative: that the fault is detected there, that it is proved
-- to be untestable or undetectable, that the budget was spent on it, or that the written vectors don't detect it.
abbrev pub HasVerdict : Netlist → Content → ℕ → ℕ → Said → Type 0
HasVerdict c content representative i (Detected place) = IsDetected c content i place
HasVerdict c content representative i Untestable = IsProved kinds.Untestable c content representative i
HasVerdict c content representative i Undetectable = IsProved kinds.Undetectable c content representative i
HasVerdict c content representative i Aborted = IsAborted c content representative i
HasVerdict c content representative i Undetected = IsFirstFrom c (fault_at c i) content.start content.list None

-- what is said of fault i: what is said of its representative
abbrev pub verdict_of : List ℕ → Content → ℕ → Said
verdict_of representatives content i = said_at content.saids (get_or representatives i 0)

-- Each listed fault has one verdict, and it is true.
abbrev pub HaveTrueVerdicts : Netlist → List ℕ → Content → Type 0
HaveTrueVerdicts c representatives content = (i : ℕ) → i < length (faults_of c)
    → HasVerdict c content (get_or representatives i 0) i (verdict_of representatives content i)

-- ---- budgets that are enough

-- it is said to be detected
abbrev pub SaysDetected : Said → Type 0
SaysDetected said = (place : Place) × (said ≡ Detected place)

-- it is said that no list of vectors of any length detects it, with an entry that shows it
abbrev pub SaysRefuted : Said → Type 0
SaysRefuted said = (said ≡ Untestable) ⊎ (said ≡ Undetectable)

-- With a budget for all windows of one frame, a fault that some set of flip-flops seals is said to be untestable or
-- undetectable. With one for the sweeps of d frames, a fault that some list of at most d vectors detects is said to be
-- detected.
pub record IsDecided (c : Netlist) (budget i : ℕ) (said : Said) : Type 0 where
  pub sealed : (z : ℕ → Bool) → Sealed c (fault_at c i) z → refutation_cost c ≤ budget → SaysRefuted said
  pub short : (d : ℕ) (list : List (List Bool)) (t o : ℕ) → length list ≤ d → Detects c (fault_at c i) list t o
      → sweep_cost c.inputs d ≤ budget → SaysDetected said

-- a budget that is enough decides what is said of each representative that is chosen
abbrev pub AreDecided : Netlist → List ℕ → (ℕ → Type 0) → Content → Type 0
AreDecided c representatives IsChosen content = (i : ℕ) → IsOwn c representatives i → IsChosen i
    → IsDecided c content.budget i (said_at content.saids i)

-- the report says more of the representative than that it is undetected
abbrev pub IsWorkedOn : Content → ℕ → Type 0
IsWorkedOn content i = said_at content.saids i ≢ Undetected
