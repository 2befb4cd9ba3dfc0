-- In what is justified a budget that is enough decides a representative that is easy to decide.
use Rattle.std.proofs.Common.{◌∙◌, ◌≤◌, ℕ, List, Bool, length, inl, inr, refl, sym}
use Rattle.std.specs.Prelude.{◌≢◌}
use Rattle.ht_net.specs.Circuit.Netlist.{Netlist, IsCircuit}
use Rattle.ht_net.specs.Detect.Detection.{Detects, IsStart}
use Rattle.ht_net.specs.Detect.Silence.{Sealed}
use Rattle.ht_net.proofs.SilenceLaws.{sealed_undetected_from}
use Rattle.ht_faults.specs.Classes.{fault_at}
use Rattle.ht_tree.specs.declared.entry.Entry.{Entry}
use Rattle.ht_tree.specs.declared.entry.Entry.TheVariants as entries
use Rattle.ht_tree.specs.declared.kind.EntryKind.TheVariants as kinds
use Rattle.ht_tree.specs.Record.Entries.{Passes, kind_of}
use Rattle.ht_tree.specs.Walk.Budgets.{refutation_cost, sweep_cost}
use Rattle.ht_records.proofs.AbortLaws.{enough_undetected, enough_unsealed, passing_means}
use Rattle.ht_texts.specs.declared.said.Said.{Said}
use Rattle.ht_texts.specs.declared.said.Said.TheVariants.{Detected, Untestable, Undetectable, Aborted, Undetected}
use Rattle.ht_texts.specs.Verdicts.{said_at}
use Rattle.ht_valid.specs.ValidFiles.{AgreesWithTests, Backs, Content, IsJustified}
use Rattle.ht_valid.specs.TrueVerdicts.{AreDecided, IsWorkedOn, SaysDetected, SaysRefuted}
use Rattle.ht_valid.proofs.BackedLaws.{IsBackedIfNeeded, justified_backs}
use Rattle.ht_valid.proofs.MemberLaws.{kind_said, means_undetected, undetectable_unspent, untestable_unspent}

module _ (c : Netlist) (content : Content) (i : ℕ) (circuit : IsCircuit c) (latches : IsStart c content.start) where
  -- with a budget for all one-frame windows no abort record backs what is said of a sealed fault
  sealed_unaborted : (z : ℕ → Bool) → Sealed c (fault_at c i) z → refutation_cost c ≤ content.budget → (e : Entry)
      → ¬ Backs c content.start content.budget i e Aborted
  sealed_unaborted z seal enough (entries.Untestable y tokens) backs = let no = backs.0 in cc
  sealed_unaborted z seal enough (entries.UntestableFrom state clauses y tokens) backs = let no = backs.0 in cc
  sealed_unaborted z seal enough (entries.UndetectableBySets rows) backs = let no = backs.0 in cc
  sealed_unaborted z seal enough (entries.UndetectableByCubes cubes steps) backs = let no = backs.0 in cc
  sealed_unaborted z seal enough (entries.Aborted told walk aim sweep) backs =
      enough_unsealed c (fault_at c i) content.budget
      (record { told = told; walk = walk; aim = aim; sweep = sweep }) circuit enough backs.1 z seal

  sealed_said : (z : ℕ → Bool) → Sealed c (fault_at c i) z → refutation_cost c ≤ content.budget → (said : Said)
      → said ≢ Undetected → AgreesWithTests c content.start content.list i said → IsBackedIfNeeded c content i said
      → SaysRefuted said
  sealed_said z seal enough (Detected place) worked agrees backed =
      absurd (sealed_undetected_from c (fault_at c i) z seal content.start latches content.list place.vector
      place.output agrees.0)
  sealed_said z seal enough Untestable worked agrees backed = inl refl
  sealed_said z seal enough Undetectable worked agrees backed = inr refl
  sealed_said z seal enough Aborted worked agrees backed =
      let by = backed tt in
      absurd (sealed_unaborted z seal enough by.entry by.backs)
  sealed_said z seal enough Undetected worked agrees backed = absurd (worked refl)

  -- what some list detects, an entry that passes shows to be aborted alone
  detected_unrefuted : (list : List (List Bool)) (t o : ℕ) → Detects c (fault_at c i) list t o → (e : Entry)
      → Passes c content.start (fault_at c i) content.budget e → ¬ (kind_of e ≢ kinds.Aborted)
  detected_unrefuted list t o detects e passes refutes =
      means_undetected c content.start (fault_at c i) e refutes
      (passing_means c content.start (fault_at c i) content.budget e circuit latches passes) list t o detects

  -- with a budget for the sweeps of d frames no abort record backs what is said of a fault that so few vectors detect
  short_unaborted : (d : ℕ) (list : List (List Bool)) (t o : ℕ) → length list ≤ d
      → Detects c (fault_at c i) list t o → sweep_cost c.inputs d ≤ content.budget → (e : Entry)
      → ¬ Backs c content.start content.budget i e Aborted
  short_unaborted d list t o few detects enough (entries.Untestable z tokens) backs = let no = backs.0 in cc
  short_unaborted d list t o few detects enough (entries.UntestableFrom state clauses z tokens) backs =
      let no = backs.0 in cc
  short_unaborted d list t o few detects enough (entries.UndetectableBySets rows) backs = let no = backs.0 in cc
  short_unaborted d list t o few detects enough (entries.UndetectableByCubes cubes steps) backs =
      let no = backs.0 in cc
  short_unaborted d list t o few detects enough (entries.Aborted told walk aim sweep) backs =
      enough_undetected c (fault_at c i) content.budget d
      (record { told = told; walk = walk; aim = aim; sweep = sweep }) circuit enough backs.1 list few t o detects

  short_said : (d : ℕ) (list : List (List Bool)) (t o : ℕ) → length list ≤ d → Detects c (fault_at c i) list t o
      → sweep_cost c.inputs d ≤ content.budget → (said : Said) → said ≢ Undetected
      → AgreesWithTests c content.start content.list i said → IsBackedIfNeeded c content i said → SaysDetected said
  short_said d list t o few detects enough (Detected place) worked agrees backed = (place, refl)
  short_said d list t o few detects enough Untestable worked agrees backed =
      let by = backed tt in
      absurd (detected_unrefuted list t o detects by.entry by.backs.1 (λ spent. untestable_unspent
      (sym (kind_said kinds.Untestable by.entry by.backs.0) ∙ spent)))
  short_said d list t o few detects enough Undetectable worked agrees backed =
      let by = backed tt in
      absurd (detected_unrefuted list t o detects by.entry by.backs.1 (λ spent. undetectable_unspent
      (sym (kind_said kinds.Undetectable by.entry by.backs.0) ∙ spent)))
  short_said d list t o few detects enough Aborted worked agrees backed =
      let by = backed tt in
      absurd (short_unaborted d list t o few detects enough by.entry by.backs)
  short_said d list t o few detects enough Undetected worked agrees backed = absurd (worked refl)

-- in what is justified, a budget that is enough decides each representative that was worked on
pub are_decided : (c : Netlist) (representatives : List ℕ) (content : Content) → IsCircuit c → IsStart c content.start
    → IsJustified c representatives content → AreDecided c representatives (IsWorkedOn content) content
are_decided c representatives content circuit latches is i own worked =
    let said = said_at content.saids i in
    let agrees = is.agrees i own in
    let backed = justified_backs c representatives content i is own in
    record {
      sealed = λ z seal enough. sealed_said c content i circuit latches z seal enough said worked agrees backed;
      short = λ d list t o few detects enough.
          short_said c content i circuit latches d list t o few detects enough said worked agrees backed;
    }
