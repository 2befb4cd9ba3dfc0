-- Which faults a finished engine says to be untestable, where the budget is enough for its clauses.
use Rattle.std.proofs.Common.{◌≡◌, ◌≤◌, ◌<◌, ◌+◌, ◌-◌, ◌∙◌, ℕ, List, [], ◌∷◌, Bool, Some, length, refl, sym, ap, subst, arith}
use Rattle.std.specs.List.{Contains}
use Rattle.std.proofs.lemmas.List.Elements.{All-contains}
use Rattle.ht_tern.specs.declared.tern.Tern.{Tern}
use Rattle.ht_net.specs.declared.fault.Fault.{Fault}
use Rattle.ht_net.specs.declared.place.Place.{Place}
use Rattle.ht_net.specs.Detect.Detection.{Allows, DetectsFrom, IsStart}
use Rattle.ht_net.specs.Circuit.Netlist.{IsCircuit, Netlist}
use Rattle.ht_net.proofs.SilenceLaws.{sealed_undetected_from, silent_undetected_from, some_allowed}
use Rattle.ht_faults.specs.Classes.{fault_at}
use Rattle.ht_tree.specs.declared.clause.Clause.{Clause}
use Rattle.ht_tree.specs.declared.entry.Entry.{Entry}
use Rattle.ht_tree.specs.declared.kind.EntryKind.{EntryKind}
use Rattle.ht_tree.specs.declared.kind.EntryKind.TheVariants as kinds
use Rattle.ht_tree.specs.Walk.Budgets.{refutation_cost}
use Rattle.ht_tree.specs.Clause.Clauses.{literals_of_each}
use Rattle.ht_tree.specs.Record.Entries.{kind_of}
use Rattle.ht_tree.specs.Clause.Invariants.{IsInvariant}
use Rattle.ht_tree.specs.Clause.SealedInClauses.{SealedIn}
use Rattle.ht_records.proofs.FromLaws.{sealed_in_silent}
use Rattle.ht_invariant.specs.declared.finding.Invariant.{Invariant}
use Rattle.ht_texts.specs.declared.said.Said.{Said}
use Rattle.ht_texts.specs.declared.said.Said.TheVariants.{Detected, Untestable, Undetectable, Aborted, Undetected}
use Rattle.ht_texts.specs.Verdicts.{said_at}
use Rattle.ht_entries.specs.declared.numbered.Numbered.{Numbered}
use Rattle.ht_valid.specs.ValidFiles.{IsOwn}
use Rattle.ht_engine.specs.declared.step.Step.{Step}
use Rattle.ht_engine.specs.declared.work.Work.TheVariants as work
use Rattle.ht_engine.specs.EngineStands.{EngineView, IsSaid, IsUndetectedWith}
use Rattle.ht_engine.specs.Enough.{IsEnough}
use Rattle.ht_engine.specs.FaultWork.{HoldsIfAny}
use Rattle.ht_engine.specs.Steps.{IsChosen, entries_of}
use Rattle.ht_engine.proofs.EnoughLaws.{sealed_by_none}
use Rattle.ht_files.specs.Generated.{AreDecidedIn}
use Rattle.ht_files.proofs.ValidLaws.{IsFinishedWork, says}

-- no list detects from a start a fault that is sealed as long as the clauses of an invariant are met, whose state the
-- start allows
sealed_in_undetected : (c : Netlist) (fault : Fault) (start : List Tern) (z : ℕ → Bool) (state : List Bool)
    (clauses : List Clause) → IsCircuit c → IsStart c start → Allows start state
    → (0 < length clauses → IsInvariant c state clauses) → SealedIn c fault z (literals_of_each clauses)
    → (list : List (List Bool)) (t o : ℕ) → ¬ DetectsFrom c fault start list t o
sealed_in_undetected c fault start z state [] circuit latches allowed holds seal =
    sealed_undetected_from c fault z (sealed_by_none c fault z seal) start latches
sealed_in_undetected c fault start z state (clause ∷ clauses) circuit latches allowed holds seal =
    let is = holds (omega arith) in
    silent_undetected_from c fault start state allowed
    (sealed_in_silent c fault z state (clause ∷ clauses) circuit is seal)

module _ (e : EngineView) (steps : List Step) (saids : List Said) (w : IsFinishedWork e steps saids)
    (large : refutation_cost e.circuit ≤ e.settings.budget) (i : ℕ) (z : ℕ → Bool)
    (seal : SealedIn e.circuit (fault_at e.circuit i) z (literals_of_each e.named_invariant.clauses)) where
  -- no entry of the fault gives it up
  entry_is_refutation : (entry : Entry) → Contains (entries_of steps) (record { number = i + 1; entry = entry })
      → kind_of entry ≡ kinds.Untestable
  entry_is_refutation entry among =
      let at : i + 1 - 1 ≡ i = omega arith in
      let enough : IsEnough e.circuit (fault_at e.circuit (i + 1 - 1)) e.settings.budget e.named_invariant.clauses
      (work.Entry entry) =
      All-contains (λ (n : Numbered). IsEnough e.circuit (fault_at e.circuit (n.number - 1)) e.settings.budget
      e.named_invariant.clauses (work.Entry n.entry)) (entries_of steps)
      (record { number = i + 1; entry = entry }) w.stands.enough among in
      enough.sealed_in large z
      (subst (λ (k : ℕ). SealedIn e.circuit (fault_at e.circuit k) z (literals_of_each e.named_invariant.clauses))
      (sym at) seal)

  named_allowed : Allows e.settings.start e.named_invariant.state
  named_allowed = subst (Allows e.settings.start) (sym w.stands.found.state) (some_allowed e.settings.start)

  -- no list detects the fault from the start
  not_detected : (place : Place) → ¬ IsSaid e.circuit e.settings.start steps i (Detected place)
  not_detected place is =
      sealed_in_undetected e.circuit (fault_at e.circuit i) e.settings.start z e.named_invariant.state
      e.named_invariant.clauses w.circuit w.stands.latches named_allowed w.stands.holds seal _ place.vector place.output
      is.0

  -- each kind of entry that it has is that of a refutation
  kind_is_refutation : (kind : EntryKind) → IsUndetectedWith e.circuit e.settings.start steps i (Some kind)
      → kind ≡ kinds.Untestable
  kind_is_refutation kind is = sym is.kind_is.2 ∙ entry_is_refutation is.kind_is.0 is.kind_is.1

  said_untestable : IsOwn e.circuit e.representatives i → IsChosen e.representatives e.settings i → (said : Said)
      → IsSaid e.circuit e.settings.start steps i said → said ≡ Untestable
  said_untestable own chosen (Detected place) is = absurd (not_detected place is)
  said_untestable own chosen Untestable is = refl
  said_untestable own chosen Undetectable is = let same = kind_is_refutation kinds.Undetectable is in cc
  said_untestable own chosen Aborted is = let same = kind_is_refutation kinds.Aborted is in cc
  said_untestable own chosen Undetected is = absurd (w.finished.none_awaits i
      (record { own = own; chosen = chosen; undetected = is.undetected; without_entry = is.kind_is }))

-- with a budget for one frame, each chosen representative that some set seals under the clauses is said untestable
pub decided_under : (e : EngineView) (steps : List Step) (saids : List Said) → IsFinishedWork e steps saids
    → AreDecidedIn e.circuit e.representatives e.settings saids e.named_invariant.clauses
decided_under e steps saids w large i own chosen z seal =
    said_untestable e steps saids w large i z seal own chosen (said_at saids i) (says e steps saids w i own)
