-- What an engine says agrees with the vectors, and the entries back it.
use Rattle.std.proofs.Common.{◌≡◌, ◌∙◌, ◌+◌, ℕ, List, Some, None, sym, subst, ap}
use Rattle.std.specs.List.{Contains}
use Rattle.ht_tree.specs.declared.entry.Entry.{Entry}
use Rattle.ht_tree.specs.declared.kind.EntryKind.{EntryKind}
use Rattle.ht_tree.specs.Record.Entries.{kind_of}
use Rattle.ht_tree.specs.Record.Rising.{Rises}
use Rattle.ht_texts.specs.declared.said.Said.{Said}
use Rattle.ht_texts.specs.declared.said.Said.TheVariants.{Detected, Untestable, Undetectable, Aborted, Undetected}
use Rattle.ht_entries.specs.declared.numbered.Numbered.{Numbered}
use Rattle.ht_entries.specs.EntryTexts.{numbers_of}
use Rattle.ht_valid.specs.ValidFiles.{AgreesWithTests, Backs, HasEntry, NeedsEntry, said_by_kind}
use Rattle.ht_engine.specs.declared.step.Step.{Step}
use Rattle.ht_engine.specs.EngineStands.{EngineView, EntryHolds, IsSaid, IsUndetectedWith}
use Rattle.ht_engine.specs.Steps.{entries_of, vectors_of_steps}
use Rattle.ht_files.proofs.OneEntryLaws.{one_entry}

module _ (e : EngineView) (steps : List Step) (i : ℕ) where
  -- what steps say of a fault agrees with their vectors
  pub agrees_if_said : (said : Said) → IsSaid e.circuit e.settings.start steps i said
      → AgreesWithTests e.circuit e.settings.start (vectors_of_steps steps) i said
  agrees_if_said (Detected place) is = is
  agrees_if_said Untestable is = is.undetected
  agrees_if_said Undetectable is = is.undetected
  agrees_if_said Aborted is = is.undetected
  agrees_if_said Undetected is = is.undetected

  -- a kind of entry is that of an entry
  has_kind : (kind : EntryKind) → IsUndetectedWith e.circuit e.settings.start steps i (Some kind)
      → HasEntry (entries_of steps) i
  has_kind kind is = record { entry = is.kind_is.0; among = is.kind_is.1 }

  -- if what steps say of a fault needs an entry, they have an entry of it
  pub has_entry_if_said : (said : Said) → IsSaid e.circuit e.settings.start steps i said → NeedsEntry said
      → HasEntry (entries_of steps) i
  has_entry_if_said (Detected place) is needs = absurd needs
  has_entry_if_said Untestable is needs = has_kind _ is
  has_entry_if_said Undetectable is needs = has_kind _ is
  has_entry_if_said Aborted is needs = has_kind _ is
  has_entry_if_said Undetected is needs = absurd needs

  module _ (rises : Rises (numbers_of (entries_of steps))) (entry : Numbered)
      (numbered : entry.number ≡ i + 1) (among : Contains (entries_of steps) entry)
      (holds : EntryHolds e.circuit e.settings i entry.entry) where
    -- the entry of the fault is the one that this is
    same_entry : (other : Entry) → Contains (entries_of steps) (record { number = i + 1; entry = other })
        → other ≡ entry.entry
    same_entry other has = ap (λ (n : Numbered). n.entry)
        (one_entry (entries_of steps) (record { number = i + 1; entry = other }) entry rises has among (sym numbered))

    same_kind : (kind : EntryKind) → IsUndetectedWith e.circuit e.settings.start steps i (Some kind)
        → said_by_kind (kind_of entry.entry) ≡ said_by_kind kind
    same_kind kind is =
        ap said_by_kind (sym (ap kind_of (same_entry is.kind_is.0 is.kind_is.1)) ∙ is.kind_is.2)

    -- an entry of a fault that holds backs what steps say of the fault
    pub backs_if_said : (said : Said) → IsSaid e.circuit e.settings.start steps i said
        → Backs e.circuit e.settings.start e.settings.budget i entry.entry said
    backs_if_said (Detected place) is = tt
    backs_if_said Untestable is = (same_kind _ is, holds.0, holds.1)
    backs_if_said Undetectable is = (same_kind _ is, holds.0, holds.1)
    backs_if_said Aborted is = (same_kind _ is, holds.0, holds.1)
    backs_if_said Undetected is = absurd (is.kind_is (record {
      entry = entry.entry;
      among = subst (λ (n : ℕ). Contains (entries_of steps) (record { number = n; entry = entry.entry })) numbered among;
    }))
