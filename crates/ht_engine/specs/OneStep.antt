-- What one step changes of what an engine keeps.
use Rattle.std.specs.Prelude.{◌≡◌, ◌⊎◌, ◌<◌, ◌≤◌, ◌+◌, ◌∷◌, ◌++◌, ℕ, List, [], Bool, Option, Some, None, length, slice_set}
use Rattle.ht_net.specs.Frames.Rows.{Rows}
use Rattle.ht_faults.specs.Classes.{fault_at}
use Rattle.ht_proofs.specs.Detections.{place_at}
use Rattle.ht_texts.specs.declared.said.Said.{Said}
use Rattle.ht_texts.specs.declared.said.Said.TheVariants as said
use Rattle.ht_tree.specs.declared.entry.Entry as recorded
use Rattle.ht_tree.specs.declared.kind.EntryKind.{EntryKind}
use Rattle.ht_tree.specs.Record.Entries.{kind_of}
use Rattle.ht_valid.specs.ValidFiles.{IsOwn, said_by_kind}
use Rattle.ht_engine.specs.declared.step.Step.{Step}
use Rattle.ht_engine.specs.declared.step.Step.TheVariants.{Vectors, Entry, Finished}
use Rattle.ht_engine.specs.declared.work.Work.{Work}
use Rattle.ht_engine.specs.declared.work.Work.TheVariants as made
use Rattle.ht_engine.specs.DeepWork.{HoldsAfter, IsWorkBy}
use Rattle.ht_engine.specs.EngineStands.{EngineView, HasGraded}
use Rattle.ht_engine.specs.Enough.{IsEnough}
use Rattle.ht_engine.specs.Steps.{IsChosen, one_vector}

-- ---- the fault that is worked on

-- Fault i represents its class, it is to be worked on, and the vectors so far don't detect it from the start.
pub record IsUndetected (e : EngineView) (i : ℕ) : Type 0 where
  pub own : IsOwn e.circuit e.representatives i
  pub chosen : IsChosen e.representatives e.settings i
  pub undetected : place_at e.grader.places i ≡ None

-- The least undetected fault that isn't below the first that may await its verdict.
pub record IsNextUndetected (e : EngineView) (i : ℕ) : Type 0 where
  pub inside : i < length e.representatives
  pub undetected : IsUndetected e i
  pub from : e.first_awaiting ≤ i
  pub least : (k : ℕ) → e.first_awaiting ≤ k → k < i → ¬ IsUndetected e k

-- The next undetected fault, or that there is none.
abbrev pub IsNextOf : EngineView → Option ℕ → Type 0
IsNextOf e None = (k : ℕ) → e.first_awaiting ≤ k → ¬ IsUndetected e k
IsNextOf e (Some i) = IsNextUndetected e i

-- ---- what is said by the kind of an entry

-- What is said of a fault that no vectors detect, by the kind of its entry, if it has one.
abbrev pub said_by : Option EntryKind → Said
said_by None = said.Undetected
said_by (Some kind) = said_by_kind kind

-- ---- what the work gave

-- What the work on fault i after these vectors gives, and what that means, by what an engine keeps.
pub record IsWorkAfter (e : EngineView) (before : List (List Bool)) (i : ℕ) (w : Work) : Type 0 where
  pub given : IsWorkBy e.settings.search e.circuit (fault_at e.circuit i) e.settings before e.named_invariant w
  pub holds : HoldsAfter e.circuit (fault_at e.circuit i) e.settings before w
  pub enough : IsEnough e.circuit (fault_at e.circuit i) e.settings.budget e.named_invariant.clauses w

-- What the work on fault i gives, after the vectors that the engine has graded: a list has a bit for each input.
pub record IsWorkOn (e : EngineView) (i : ℕ) (w : Work) : Type 0 where
  pub width : (list : Rows) → w ≡ made.List list → list.width ≡ e.circuit.inputs
  pub after : (before : List (List Bool)) → HasGraded e before → IsWorkAfter e before i w

-- ---- the vectors that are graded

-- Vectors were graded after those so far, and nothing else is new.
pub record AddsVectors (old : EngineView) (list : List (List Bool)) (new : EngineView) : Type 0 where
  pub after : new ≡ record old { grader = new.grader }
  pub graded : (before : List (List Bool)) → HasGraded old before → HasGraded new (before ++ list)

-- ---- the first vectors

-- One of the first vectors was drawn: the first of those that were left.
pub record DrawsFirst (old : EngineView) (vector : List Bool) (new : EngineView) : Type 0 where
  pub first : old.rest ≡ vector ∷ new.rest
  pub wide : length vector ≡ old.circuit.inputs
  pub after : new ≡ record old { rest = new.rest }

-- ---- the step

-- The next of the first vectors was given by itself: it is kept.
pub record GivesFirst (old new : EngineView) (list : Rows) : Type 0 where
  pub vector : List Bool
  pub rest : List (List Bool)
  pub left : old.rest ≡ vector ∷ rest
  pub given : list ≡ one_vector old.circuit vector
  pub wide : length vector ≡ old.circuit.inputs
  pub after : new ≡ record old { grader = new.grader; rest = rest }
  pub graded : (before : List (List Bool)) → HasGraded old before → HasGraded new (before ++ list.list)

-- A list was given for the next fault: its vectors are kept.
pub record GivesList (old new : EngineView) (list : Rows) : Type 0 where
  pub none_left : old.rest ≡ []
  pub fault : ℕ
  pub next : IsNextUndetected old fault
  pub work : IsWorkOn old fault (made.List list)
  pub after : new ≡ record old { grader = new.grader; first_awaiting = fault + 1 }
  pub graded : (before : List (List Bool)) → HasGraded old before → HasGraded new (before ++ list.list)

-- An entry was given for the next fault: its kind is kept.
pub record GivesEntry (old new : EngineView) (fault : ℕ) (entry : recorded.Entry) : Type 0 where
  pub none_left : old.rest ≡ []
  pub next : IsNextUndetected old fault
  pub work : IsWorkOn old fault (made.Entry entry)
  pub room : fault < length old.kinds
  pub after : new
      ≡ record old { kinds = slice_set old.kinds fault (Some (kind_of entry)); first_awaiting = fault + 1 }

-- There is no next fault.
pub record Ends (old new : EngineView) : Type 0 where
  pub none_left : old.rest ≡ []
  pub none : IsNextOf old None
  pub within : old.first_awaiting ≤ length old.representatives
  pub after : new ≡ record old { first_awaiting = length old.representatives }

-- One step changes what an engine keeps: it gives one of the first vectors, a list or an entry, or ends.
abbrev pub Advances : EngineView → EngineView → Step → Type 0
Advances old new (Vectors list) = GivesFirst old new list ⊎ GivesList old new list
Advances old new (Entry fault entry) = GivesEntry old new fault entry
Advances old new Finished = Ends old new
