-- What is known of each class in a search whose lists and entries come in any order.
use Rattle.std.specs.Prelude.{◌≡◌, ◌≢◌, ◌↔◌, ℕ, List, Option, Some, None, get_or}
use Rattle.ht_tern.specs.declared.tern.Tern.{Tern}
use Rattle.ht_net.specs.Circuit.Netlist.{Netlist}
use Rattle.ht_faults.specs.Classes.{fault_at}
use Rattle.ht_proofs.specs.ClassGraderView.{ClassGraderView}
use Rattle.ht_proofs.specs.Detections.{place_at}
use Rattle.ht_tree.specs.declared.entry.Entry as recorded
use Rattle.ht_tree.specs.declared.kind.EntryKind.TheVariants as kind
use Rattle.ht_tree.specs.Record.Entries.{AllowsEntry, Passes, kind_of}
use Rattle.ht_texts.specs.declared.said.Said.{Said}
use Rattle.ht_texts.specs.declared.said.Said.TheVariants.{Detected, Undetected}
use Rattle.ht_valid.specs.ValidFiles.{IsOwn, said_by_kind}
use Rattle.ht_valid.specs.WritableEntries.{IsWritable}

-- An entry that decides fault i from a start, whatever the budget: the fault represents its class, the entry says more
-- than that a search was spent, it passes, the start allows the state that it names, and it can be written.
pub record Decides (c : Netlist) (representatives : List ℕ) (start : List Tern) (i : ℕ)
    (made : recorded.Entry) : Type 0 where
  pub own : IsOwn c representatives i
  pub more : kind_of made ≢ kind.Aborted
  pub passes : (budget : ℕ) → Passes c start (fault_at c i) budget made
  pub allowed : AllowsEntry start made
  pub writable : IsWritable made

-- What is kept: what the vectors so far detect from the start, and the entry of each fault, or none.
pub record VerdictsView : Type 0 where
  pub circuit : Netlist
  pub representatives : List ℕ
  pub start : List Tern
  pub grader : ClassGraderView
  pub entries : List (Option recorded.Entry)

-- no fault has an entry
abbrev pub AreNone : List (Option recorded.Entry) → Type 0
AreNone entries = (i : ℕ) → get_or entries i None ≡ None

-- the entry of fault i, or none
abbrev pub entry_at : VerdictsView → ℕ → Option recorded.Entry
entry_at v i = get_or v.entries i None

-- Each entry that is kept decides its fault.
abbrev pub AllDecide : VerdictsView → Type 0
AllDecide v = (i : ℕ) (made : recorded.Entry) → entry_at v i ≡ Some made
    → Decides v.circuit v.representatives v.start i made

-- Fault i is open: the vectors so far don't detect it, and it has no entry.
pub record HasNoVerdict (v : VerdictsView) (i : ℕ) : Type 0 where
  pub undetected : place_at v.grader.places i ≡ None
  pub without_entry : entry_at v i ≡ None

-- what an entry says of a fault that no vectors detect
abbrev pub said_by_entry : Option recorded.Entry → Said
said_by_entry None = Undetected
said_by_entry (Some made) = said_by_kind (kind_of made)
