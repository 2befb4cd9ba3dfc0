-- What the steps of `gen` promise each other.
use Rattle.std.specs.Prelude.{◌≡◌, ◌⊎◌, ◌≤◌, ◌+◌, ◌++◌, ℕ, Bool, List, [], length, take, flat_map, Option, Result, OnOk, IfErr}
use Rattle.ht_ports.specs.LineRule.{max_text_bytes}
use Rattle.ht_ports.specs.Desk.{DeskView}
use Rattle.ht_net.specs.Circuit.Netlist as net
use Rattle.ht_engine.specs.declared.step.Step.{Step}
use Rattle.ht_engine.specs.declared.settings.Settings.{Settings}
use Rattle.ht_engine.specs.Steps.{AreFinished, AreSteps, entries_of, vectors_of_steps}
use Rattle.ht_tree.specs.declared.entry.Entry as recorded
use Rattle.ht_tree.specs.Record.Reached.{AreVectors}
use Rattle.ht_files.specs.Searched.{BeginWith, entry_steps}
use Rattle.ht_asked.specs.declared.depth.Depth.{Depth}
use Rattle.ht_engine.specs.EngineStands.{EngineStandsFor, EngineView}
use Rattle.ht_files.specs.StepTexts.{proofs_so_far, proofs_step, tests_of, tests_step}
use Rattle.ht_words.specs.declared.job.RunFiles.{RunFiles}
use Rattle.ht_app.specs.declared.generate.sizes.Sizes.{Sizes}
use Rattle.ht_inputs.specs.declared.run_error.RunError.{RunError}
use Rattle.ht_inputs.specs.declared.run_error.RunError.TheVariants.{WriteFault}
use Rattle.ht_app.specs.Acts.{Act}
use Rattle.ht_app.specs.Outputs.{AreFilesTo, AreGenerated, AreStepsTo, IsGeneratedOf, WritesFiles, WritesSteps, step_acts}
use Rattle.ht_app.specs.Steps.{Tries}

-- ---- sizes

-- the sizes count the text of the step
pub record CountsStep (step : Step) (old new : Sizes) : Type 0 where
  pub tests : new.tests.bytes ≡ old.tests.bytes + length (tests_step step)
  pub proofs : new.proofs.bytes ≡ old.proofs.bytes + length (proofs_step step)
  pub short : old.tests.bytes ≤ max_text_bytes → new.tests.bytes ≤ max_text_bytes

-- the sizes are those of the texts of these steps
pub record AreSizesOf (settings : Settings) (steps : List Step) (sizes : Sizes) : Type 0 where
  pub tests : sizes.tests.bytes ≡ length (tests_of steps)
  pub proofs : sizes.proofs.bytes ≡ length (proofs_so_far settings steps)
  pub short : sizes.tests.bytes ≤ max_text_bytes

-- ---- the steps of an engine

-- the engine stands for these steps, and the sizes are those of their texts
pub record StandsAt (steps : List Step) (e : EngineView) (sizes : Sizes) : Type 0 where
  pub engine : EngineStandsFor e steps
  pub counted : AreSizesOf e.settings steps sizes

-- The engine's next steps are tried to be written; where this holds, they are all.
pub record WritesOn {A : Type 0} (steps : List Step) (AtEnd : Type 0) (e later : EngineView)
    (sizes : Sizes)
    (result : Result A RunError) (old new : DeskView) : Type 0 where
  pub more : List Step
  pub are : AreSteps e.circuit e.representatives e.settings (steps ++ more)
  pub tries : Tries (flat_map step_acts more) result old new
  pub stands : OnOk result (StandsAt (steps ++ more) later sizes)
  pub finished : AtEnd → AreFinished e.circuit e.representatives e.settings (steps ++ more)

-- ---- the files

-- The files of a search are tried to be made and written. Once all steps are, memory doesn't run out.
pub record WritesAll (files : RunFiles) (settings : Settings) (AreSo : List Step → Type 0)
    (IsLast : List Step → List ℕ → List ℕ → Type 0) (result : Result (Unit {0}) RunError)
    (old new : DeskView) : Type 0 where
  pub acts : List Act
  pub tries : Tries acts result old new
  pub done : OnOk result (WritesFiles files settings AreSo IsLast acts)
  pub stopped : IfErr result (λ error. WritesSteps files settings AreSo acts
      ⊎ ((error ≡ WriteFault) × WritesFiles files settings AreSo IsLast acts))

-- The same of an engine's steps.
abbrev pub WritesGenerated : RunFiles → net.Netlist → Settings → Result (Unit {0}) RunError
    → DeskView → DeskView → Type 0
WritesGenerated files c settings =
    WritesAll files settings (AreGenerated c settings) (IsGeneratedOf c settings)

-- The same of a search that goes so far.
abbrev pub WritesTo : Depth → ℕ → RunFiles → net.Netlist → Settings → Result (Unit {0}) RunError
    → DeskView → DeskView → Type 0
WritesTo depth work files c settings =
    WritesAll files settings (AreStepsTo depth c settings) (AreFilesTo depth work c settings)

-- ---- the steps of a full search

-- These steps are tried to be written, and counted after any others.
pub record Adds {A : Type 0} (more : List Step) (sizes later : Sizes) (result : Result A RunError)
    (old new : DeskView) : Type 0 where
  pub tries : Tries (flat_map step_acts more) result old new
  pub counted : OnOk result ((settings : Settings) (steps : List Step)
      → AreSizesOf settings steps sizes → AreSizesOf settings (steps ++ more) later)

-- Steps without entries, whose vectors are none, or the given ones and others after them.
pub record AreLists (given : List (List Bool)) (steps : List Step) : Type 0 where
  pub none : entries_of steps ≡ []
  pub vectors : BeginWith given (vectors_of_steps steps)

-- The steps have all these vectors, which are of the circuit.
pub record HaveAll (c : net.Netlist) (steps : List Step) (all : List (List Bool)) : Type 0 where
  pub same : vectors_of_steps steps ≡ all
  pub wide : AreVectors c all

-- Lists of a search are tried to be written: in the end all its vectors are.
pub record WritesLists {A : Type 0} (c : net.Netlist) (given all : List (List Bool))
    (sizes later : Sizes) (result : Result A RunError) (old new : DeskView) : Type 0 where
  pub steps : List Step
  pub are : AreLists given steps
  pub adds : Adds steps sizes later result old new
  pub whole : OnOk result (HaveAll c steps all)

-- The entries of the first faults are tried to be written: in the end those of all are.
pub record WritesEntries {A : Type 0} (kept : List (Option recorded.Entry)) (sizes later : Sizes)
    (result : Result A RunError) (old new : DeskView) : Type 0 where
  pub count : ℕ
  pub adds : Adds (entry_steps 0 (take count kept)) sizes later result old new
  pub whole : OnOk result (length kept ≤ count)
