-- The steps of the generator, the first vectors and then the work on the representatives of the chosen faults: which may
-- come after which.
use Rattle.std.specs.Prelude.{◌≡◌, ◌⊎◌, ◌<◌, ◌≤◌, ◌+◌, ◌-◌, ℕ, List, [], ◌∷◌, ◌++◌, flat_map, get_or, length, Bool, None}
use Rattle.std.specs.List.{Contains}
use Rattle.std.specs.Option.{ForSome}
use Rattle.ht_net.specs.Circuit.Netlist.{Netlist}
use Rattle.ht_net.specs.Frames.Rows.{Rows}
use Rattle.ht_net.specs.Detect.Detection.{IsFirstFrom}
use Rattle.ht_faults.specs.Classes.{fault_at}
use Rattle.ht_entries.specs.declared.numbered.Numbered.{Numbered}
use Rattle.ht_valid.specs.ValidFiles.{HasEntry, IsOwn}
use Rattle.ht_invariant.specs.declared.finding.Invariant.{Invariant}
use Rattle.ht_engine.specs.declared.settings.Settings.{Settings}
use Rattle.ht_engine.specs.declared.work.Work.TheVariants as work
use Rattle.ht_engine.specs.declared.step.Step.{Step}
use Rattle.ht_engine.specs.declared.step.Step.TheVariants.{Vectors, Entry, Finished}
use Rattle.ht_engine.specs.FirstVectors.{first_of}
use Rattle.ht_engine.specs.FaultWork.{IsNamedInvariant}
use Rattle.ht_engine.specs.DeepWork.{IsWorkBy}

-- ---- the vectors and the entries of steps

-- The vectors that a step gives.
abbrev pub step_vectors : Step → List (List Bool)
step_vectors (Vectors list) = list.list
step_vectors (Entry fault entry) = []
step_vectors Finished = []

-- The entries that a step gives, one at most, by the number of its fault from 1.
abbrev pub step_entries : Step → List Numbered
step_entries (Vectors list) = []
step_entries (Entry fault entry) = record { number = fault + 1; entry = entry } ∷ []
step_entries Finished = []

-- The vectors of all steps, in order.
abbrev pub vectors_of_steps : List Step → List (List Bool)
vectors_of_steps steps = flat_map step_vectors steps

-- The entries of all steps, in order.
abbrev pub entries_of : List Step → List Numbered
entries_of steps = flat_map step_entries steps

-- The number of the entry is that of a fault which represents its class.
pub record IsOwnEntry (c : Netlist) (representatives : List ℕ) (e : Numbered) : Type 0 where
  pub counted : 0 < e.number
  pub own : IsOwn c representatives (e.number - 1)

-- ---- which fault comes next

-- Fault number n, from 1, is in the class that fault i stands for.
pub record IsInClass (representatives : List ℕ) (n i : ℕ) : Type 0 where
  pub counted : 0 < n
  pub listed : n ≤ length representatives
  pub class : get_or representatives (n - 1) 0 ≡ i

-- Some of these numbers is that of a fault in the class that fault i stands for.
abbrev pub AnyInClass : List ℕ → List ℕ → ℕ → Type 0
AnyInClass representatives numbers i = (n : ℕ) × Contains numbers n × IsInClass representatives n i

-- Fault i is to be worked on: one of its class was chosen, or no choice was made.
abbrev pub IsChosen : List ℕ → Settings → ℕ → Type 0
IsChosen representatives settings i =
    ForSome settings.chosen (λ (numbers : List ℕ). AnyInClass representatives numbers i)

-- Fault i awaits its verdict: it represents its class, it is to be worked on, the vectors so far don't detect it from
-- the start, and it has no entry.
pub record AwaitsVerdict (c : Netlist) (representatives : List ℕ) (settings : Settings) (steps : List Step) (i : ℕ)
    : Type 0 where
  pub own : IsOwn c representatives i
  pub chosen : IsChosen representatives settings i
  pub undetected : IsFirstFrom c (fault_at c i) settings.start (vectors_of_steps steps) None
  pub without_entry : ¬ HasEntry (entries_of steps) i

-- The least fault that awaits its verdict.
pub record IsNextFault (c : Netlist) (representatives : List ℕ) (settings : Settings) (steps : List Step) (i : ℕ)
    : Type 0 where
  pub awaits : AwaitsVerdict c representatives settings steps i
  pub least : (k : ℕ) → k < i → ¬ AwaitsVerdict c representatives settings steps k

-- ---- the vectors that come first

-- The vectors that come before all work.
abbrev pub first_vectors : Netlist → Settings → List (List Bool)
first_vectors c settings = first_of c.inputs settings

-- One vector as a list.
abbrev pub one_vector : Netlist → List Bool → Rows
one_vector c vector = record { width = c.inputs; list = vector ∷ [] }

-- ---- the steps

-- the step is what the work on fault i gives after some vectors
abbrev pub IsStepOn : Netlist → Settings → List (List Bool) → Invariant → ℕ → Step → Type 0
IsStepOn c settings before invariant i (Vectors list) =
    IsWorkBy settings.search c (fault_at c i) settings before invariant (work.List list)
IsStepOn c settings before invariant i (Entry fault entry) =
    (fault ≡ i) × IsWorkBy settings.search c (fault_at c i) settings before invariant (work.Entry entry)
IsStepOn c settings before invariant i Finished = ⊥

-- The step gives the next of the first vectors, by itself.
pub record IsFirstStep (c : Netlist) (first : List (List Bool)) (before : List Step) (step : Step) : Type 0 where
  pub left : length before < length first
  pub given : step ≡ Vectors (one_vector c (get_or first (length before) []))

-- The first vectors are all given, and the step is what the work on the next fault gives, with the invariant that is
-- found from the state named for the start.
pub record IsWorkStep (c : Netlist) (representatives : List ℕ) (settings : Settings) (before : List Step) (step : Step)
    : Type 0 where
  pub after : length (first_vectors c settings) ≤ length before
  pub fault : ℕ
  pub next : IsNextFault c representatives settings before fault
  pub invariant : Invariant
  pub found : IsNamedInvariant c settings.start settings.budget invariant
  pub given : IsStepOn c settings (vectors_of_steps before) invariant fault step

-- A step may come after these: the next of the first vectors, or what the work on the next fault gives.
abbrev pub Follows : Netlist → List ℕ → Settings → List Step → Step → Type 0
Follows c representatives settings before step =
    IsFirstStep c (first_vectors c settings) before step ⊎ IsWorkStep c representatives settings before step

-- Steps, each of which may come after those before it.
pub data AreSteps (c : Netlist) (representatives : List ℕ) (settings : Settings) : List Step → Type 0 where
  none : AreSteps c representatives settings []
  one_more : (steps : List Step) (step : Step) → AreSteps c representatives settings steps
      → Follows c representatives settings steps step → AreSteps c representatives settings (steps ++ step ∷ [])

-- The first vectors are all given, and no fault awaits its verdict.
pub record AreFinished (c : Netlist) (representatives : List ℕ) (settings : Settings) (steps : List Step)
    : Type 0 where
  pub given : length (first_vectors c settings) ≤ length steps
  pub none_awaits : (i : ℕ) → ¬ AwaitsVerdict c representatives settings steps i
