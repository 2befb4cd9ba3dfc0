-- An engine, and the steps that it stands for.
use Rattle.std.specs.Prelude.{◌≡◌, ◌<◌, ◌≤◌, ◌-◌, ◌+◌, ℕ, List, [], ◌∷◌, ◌++◌, Bool, drop, get_or, length, Option, Some, None}
use Rattle.std.specs.List.{All, Contains}
use Rattle.ht_tern.specs.declared.tern.Tern.{Tern}
use Rattle.ht_net.specs.Circuit.Netlist.{Netlist}
use Rattle.ht_net.specs.Detect.Detection.{DetectsFrom, IsFirstFrom, IsStart}
use Rattle.ht_faults.specs.Classes.{fault_at}
use Rattle.ht_proofs.specs.ClassGraderView.{ClassGraderStandsFor, ClassGraderView}
use Rattle.ht_tree.specs.Record.Entries.{AllowsEntry, Passes, kind_of}
use Rattle.ht_tree.specs.Record.Reached.{AreVectors}
use Rattle.ht_texts.specs.declared.said.Said.{Said}
use Rattle.ht_texts.specs.declared.said.Said.TheVariants as said
use Rattle.ht_tree.specs.declared.clause.Clause.{Clause}
use Rattle.ht_tree.specs.declared.entry.Entry as recorded
use Rattle.ht_tree.specs.declared.kind.EntryKind.{EntryKind}
use Rattle.ht_tree.specs.declared.kind.EntryKind.TheVariants as kind
use Rattle.ht_invariant.specs.declared.finding.Invariant.{Invariant}
use Rattle.ht_entries.specs.declared.numbered.Numbered.{Numbered}
use Rattle.ht_valid.specs.ValidFiles.{HasEntry}
use Rattle.ht_engine.specs.declared.settings.Settings.{Settings}
use Rattle.ht_engine.specs.declared.step.Step.{Step}
use Rattle.ht_engine.specs.declared.step.Step.TheVariants.{Vectors, Entry, Finished}
use Rattle.ht_engine.specs.declared.work.Work.TheVariants as work
use Rattle.ht_engine.specs.Enough.{IsEnough}
use Rattle.ht_engine.specs.FaultWork.{HoldsIfAny, IsNamedInvariant}
use Rattle.ht_engine.specs.Steps.{AreFinished, AreSteps, AwaitsVerdict, Follows, entries_of, first_vectors, vectors_of_steps}

-- An engine as contracts see it: what it works on, and what it keeps.
pub record EngineView : Type 0 where
  -- what it works on
  pub circuit : Netlist
  pub representatives : List ℕ
  pub settings : Settings
  -- the invariant of the state that is named: the start, with 0 where it is unknown
  pub named_invariant : Invariant
  -- what it keeps of the steps so far: what their vectors detect, the kind of each fault's entry, and the number of the
  -- first fault that may still await its verdict
  pub grader : ClassGraderView
  pub kinds : List (Option EntryKind)
  pub first_awaiting : ℕ
  -- the first vectors that are left
  pub rest : List (List Bool)
  -- false from the first time that memory ran out
  pub live : Bool

-- ---- the steps that an engine stands for

-- The vectors that come before all work of an engine.
abbrev pub all_first : EngineView → List (List Bool)
all_first e = first_vectors e.circuit e.settings

-- The kind of the entry of fault i, or none, as an engine keeps it.
abbrev pub kind_at : EngineView → ℕ → Option EntryKind
kind_at e i = get_or e.kinds i None

-- Fault i has an entry of this kind among the entries, or none.
abbrev pub IsKindIn : List Numbered → ℕ → Option EntryKind → Type 0
IsKindIn entries i None = ¬ HasEntry entries i
IsKindIn entries i (Some kind) = (e : recorded.Entry)
    × Contains entries (record { number = i + 1; entry = e }) × (kind_of e ≡ kind)

-- The entry of fault i passes, and the start allows the state that it names.
abbrev pub EntryHolds : Netlist → Settings → ℕ → recorded.Entry → Type 0
EntryHolds c settings i made =
    Passes c settings.start (fault_at c i) settings.budget made × AllowsEntry settings.start made

-- Each entry passes for the fault of its number, and the start allows the state that it names.
abbrev pub AllHold : Netlist → Settings → List Numbered → Type 0
AllHold c settings entries = All (λ (e : Numbered). EntryHolds c settings (e.number - 1) e.entry) entries

-- The budget is enough for what each entry says, if it is enough for anything (`IsEnough`).
abbrev pub AreEnough : Netlist → ℕ → List Clause → List Numbered → Type 0
AreEnough c budget clauses entries =
    All (λ (e : Numbered). IsEnough c (fault_at c (e.number - 1)) budget clauses (work.Entry e.entry)) entries

-- A grader of the classes of a circuit stands for these vectors from a start.
pub record Grades (c : Netlist) (representatives : List ℕ) (start : List Tern) (list : List (List Bool))
    (grader : ClassGraderView) : Type 0 where
  pub circuit : grader.machines.circuit ≡ c
  pub representatives_same : grader.representatives ≡ representatives
  pub stands : ClassGraderStandsFor grader start list

-- The vectors that an engine has graded.
abbrev pub HasGraded : EngineView → List (List Bool) → Type 0
HasGraded e list = Grades e.circuit e.representatives e.settings.start list e.grader

-- The engine stands for these steps: what it keeps is theirs. Its invariant is the one that is found from the state
-- named for its start.
pub record EngineStandsFor (e : EngineView) (steps : List Step) : Type 0 where
  pub latches : IsStart e.circuit e.settings.start
  pub are : AreSteps e.circuit e.representatives e.settings steps
  pub rest : e.rest ≡ drop (length steps) (all_first e)
  pub graded : HasGraded e (vectors_of_steps steps)
  pub kinds : (i : ℕ) → i < length e.representatives → IsKindIn (entries_of steps) i (kind_at e i)
  pub done : (i : ℕ) → i < e.first_awaiting → ¬ AwaitsVerdict e.circuit e.representatives e.settings steps i
  pub entered : (i : ℕ) → HasEntry (entries_of steps) i → i < e.first_awaiting
  -- what the steps mean
  pub wide : AreVectors e.circuit (vectors_of_steps steps)
  pub pass : AllHold e.circuit e.settings (entries_of steps)
  pub found : IsNamedInvariant e.circuit e.settings.start e.settings.budget e.named_invariant
  pub holds : HoldsIfAny e.circuit e.named_invariant
  pub enough : AreEnough e.circuit e.settings.budget e.named_invariant.clauses (entries_of steps)

-- ---- one more step

-- What the engine works on stays.
pub record HasSameWork (old new : EngineView) : Type 0 where
  pub circuit : new.circuit ≡ old.circuit
  pub representatives : new.representatives ≡ old.representatives
  pub settings : new.settings ≡ old.settings

-- How many steps may still come: one for each of the first vectors that are left, and one for each fault from the first awaiting
-- on.
abbrev pub remaining : EngineView → ℕ
remaining e = length e.rest + (length e.representatives - e.first_awaiting)

-- The engine made a step that may come after these, and stands for them with it.
pub record MakesStep (old new : EngineView) (steps : List Step) (step : Step) : Type 0 where
  pub follows : Follows old.circuit old.representatives old.settings steps step
  pub stands : EngineStandsFor new (steps ++ step ∷ [])

-- The engine made the step after these, or is finished where they are all.
abbrev pub Makes : EngineView → EngineView → List Step → Step → Type 0
Makes old new steps Finished =
    AreFinished old.circuit old.representatives old.settings steps × EngineStandsFor new steps
Makes old new steps step = MakesStep old new steps step

-- A list of vectors after those so far, with which a representative is detected from the start that awaited its
-- verdict.
pub record IsUseful (c : Netlist) (representatives : List ℕ) (settings : Settings) (steps : List Step)
    (list : List (List Bool)) : Type 0 where
  pub fault : ℕ
  pub awaited : AwaitsVerdict c representatives settings steps fault
  pub vector : ℕ
  pub output : ℕ
  pub detects : DetectsFrom c (fault_at c fault) settings.start (vectors_of_steps steps ++ list) vector output

-- Each list after the first vectors is useful, and each entry passes and names a state that the start allows, if any.
abbrev pub MeansOfStep : EngineView → List Step → Step → Type 0
MeansOfStep e steps (Vectors list) =
    length (all_first e) ≤ length steps → IsUseful e.circuit e.representatives e.settings steps list.list
MeansOfStep e steps (Entry fault made) = EntryHolds e.circuit e.settings fault made
MeansOfStep e steps Finished = Unit {0}

-- ---- what is said of a representative

-- The vectors of the steps don't detect fault i, and it has an entry of this kind, or none.
pub record IsUndetectedWith (c : Netlist) (start : List Tern) (steps : List Step) (i : ℕ) (kind : Option EntryKind)
    : Type 0 where
  pub undetected : IsFirstFrom c (fault_at c i) start (vectors_of_steps steps) None
  pub kind_is : IsKindIn (entries_of steps) i kind

-- What steps say of fault i: that it is detected at the first place where their vectors detect it; where they don't,
-- what its entry says; and undetected where it has none.
abbrev pub IsSaid : Netlist → List Tern → List Step → ℕ → Said → Type 0
IsSaid c start steps i (said.Detected place) =
    IsFirstFrom c (fault_at c i) start (vectors_of_steps steps) (Some place)
IsSaid c start steps i said.Untestable = IsUndetectedWith c start steps i (Some kind.Untestable)
IsSaid c start steps i said.Undetectable = IsUndetectedWith c start steps i (Some kind.Undetectable)
IsSaid c start steps i said.Aborted = IsUndetectedWith c start steps i (Some kind.Aborted)
IsSaid c start steps i said.Undetected = IsUndetectedWith c start steps i None
