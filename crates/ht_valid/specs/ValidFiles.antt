-- When tests, a report and proofs are valid for a circuit: what they say agrees, and nothing is missing.
use Rattle.std.specs.Prelude.{◌≡◌, ◌<◌, ◌+◌, ◌-◌, ℕ, List, Bool, true, length, Some, None}
use Rattle.std.specs.List.{All, Contains}
use Rattle.ht_tern.specs.declared.tern.Tern.{Tern}
use Rattle.ht_net.specs.Circuit.Netlist.{Netlist}
use Rattle.ht_net.specs.Detect.Detection.{IsFirstFrom}
use Rattle.ht_faults.specs.Sites.{faults_of}
use Rattle.ht_faults.specs.Classes.{fault_at, is_representative}
use Rattle.ht_tree.specs.declared.entry.Entry.{Entry}
use Rattle.ht_tree.specs.declared.kind.EntryKind.{EntryKind}
use Rattle.ht_tree.specs.declared.kind.EntryKind.TheVariants as kinds
use Rattle.ht_tree.specs.Record.Entries.{AllowsEntry, Passes, kind_of}
use Rattle.ht_texts.specs.declared.said.Said.{Said}
use Rattle.ht_texts.specs.declared.said.Said.TheVariants.{Detected, Untestable, Undetectable, Aborted, Undetected}
use Rattle.ht_texts.specs.Tests.{IsTestText}
use Rattle.ht_texts.specs.Verdicts.{said_at}
use Rattle.ht_texts.specs.SearchReports.{IsReportText}
use Rattle.ht_entries.specs.declared.numbered.Numbered.{Numbered}
use Rattle.ht_entries.specs.EntryTexts.{IsProofText}

-- what the files say: the stated start, or all-unknown where none is stated; the vectors of the tests, the budget and
-- the verdicts of the report, the entries of the proofs
pub record Content : Type 0 where
  pub start : List Tern
  pub list : List (List Bool)
  pub budget : ℕ
  pub saids : List Said
  pub entries : List Numbered

-- fault i is of the list, and represents its class
pub record IsOwn (c : Netlist) (representatives : List ℕ) (i : ℕ) : Type 0 where
  pub listed : i < length (faults_of c)
  pub own : is_representative representatives i ≡ true

-- ---- the report

-- What is said of fault i agrees with the vectors: it is detected exactly where they detect it from the start, and
-- there first.
abbrev pub AgreesWithTests : Netlist → List Tern → List (List Bool) → ℕ → Said → Type 0
AgreesWithTests c start list i (Detected place) = IsFirstFrom c (fault_at c i) start list (Some place)
AgreesWithTests c start list i said = IsFirstFrom c (fault_at c i) start list None

-- ---- the proofs

-- what is said of a fault by an entry of this kind
abbrev pub said_by_kind : EntryKind → Said
said_by_kind kinds.Untestable = Untestable
said_by_kind kinds.Undetectable = Undetectable
said_by_kind kinds.Aborted = Aborted

-- The entry backs what is said of fault i: it is of that kind, it passes, and the start allows the state that it names.
-- The entry of a detected fault isn't judged, and none backs that a fault is just undetected.
abbrev pub Backs : Netlist → List Tern → ℕ → ℕ → Entry → Said → Type 0
Backs c start budget i e (Detected place) = Unit {0}
Backs c start budget i e said =
    (said_by_kind (kind_of e) ≡ said) × Passes c start (fault_at c i) budget e × AllowsEntry start e

-- The number of the entry is that of a representative, and the entry backs what is said of it.
pub record IsBacking (c : Netlist) (representatives : List ℕ) (content : Content) (e : Numbered) : Type 0 where
  pub own : IsOwn c representatives (e.number - 1)
  pub counted : 0 < e.number
  pub backs : Backs c content.start content.budget (e.number - 1) e.entry (said_at content.saids (e.number - 1))

-- what is said needs an entry that shows it: that the fault is untestable, undetectable or aborted
abbrev pub NeedsEntry : Said → Type 0
NeedsEntry (Detected place) = ⊥
NeedsEntry Undetected = ⊥
NeedsEntry said = Unit {0}

-- one of the entries has the number of fault i, which counts from 1 there
pub record HasEntry (entries : List Numbered) (i : ℕ) : Type 0 where
  pub entry : Entry
  pub among : Contains entries (record { number = i + 1; entry = entry })

-- ---- the three together

-- What is said is justified: of each representative the report says what the vectors show from the start; each entry
-- backs what is said of its fault; and none that is needed is missing.
pub record IsJustified (c : Netlist) (representatives : List ℕ) (content : Content) : Type 0 where
  pub agrees : (i : ℕ) → IsOwn c representatives i
      → AgreesWithTests c content.start content.list i (said_at content.saids i)
  pub backed : All (IsBacking c representatives content) content.entries
  pub complete : (i : ℕ) → IsOwn c representatives i → NeedsEntry (said_at content.saids i)
      → HasEntry content.entries i

-- The content is of the start; the tests are vectors of the circuit; the report has one line for each listed fault; the
-- proofs hold the entries; and what is said is justified.
pub record AreValid (c : Netlist) (representatives : List ℕ) (start : List Tern) (tests report proofs : List ℕ)
    (content : Content) : Type 0 where
  pub stated : content.start ≡ start
  pub vectors : IsTestText c tests content.list
  pub reported : IsReportText c representatives report content.budget content.saids
  pub proved : IsProofText content.entries proofs
  pub justified : IsJustified c representatives content

-- some content makes them valid
abbrev pub AreValidFiles : Netlist → List ℕ → List Tern → List ℕ → List ℕ → List ℕ → Type 0
AreValidFiles c representatives start tests report proofs =
    (content : Content) × AreValid c representatives start tests report proofs content
