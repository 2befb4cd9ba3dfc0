-- What the three files of a full search say, and that it is true.
use Rattle.std.specs.Prelude.{◌≡◌, ◌≢◌, ◌⊎◌, ◌<◌, ◌+◌, ◌-◌, ◌++◌, ℕ, List, [], ◌∷◌, Bool, Option, Some, None}
use Rattle.std.specs.List.{All}
use Rattle.ht_tern.specs.declared.tern.Tern.{Tern}
use Rattle.ht_net.specs.Circuit.Netlist.{Netlist}
use Rattle.ht_faults.specs.Classes.{AreClasses}
use Rattle.ht_tree.specs.declared.entry.Entry as recorded
use Rattle.ht_tree.specs.Record.Reached.{AreVectors}
use Rattle.ht_texts.specs.declared.said.Said.{Said}
use Rattle.ht_texts.specs.declared.said.Said.TheVariants.{Aborted}
use Rattle.ht_texts.specs.Lines.{with_lf}
use Rattle.ht_texts.specs.Reports.{report_text, report_sums, total_line}
use Rattle.ht_texts.specs.Verdicts.{said_at}
use Rattle.ht_entries.specs.declared.numbered.Numbered.{Numbered}
use Rattle.ht_valid.specs.ValidFiles.{AreValid, IsOwn}
use Rattle.ht_valid.specs.TrueVerdicts.{HaveTrueVerdicts}
use Rattle.ht_proofs.specs.ClassGraderView.{ClassGraderStandsFor}
use Rattle.ht_verdicts.specs.Kept.{kept_entries}
use Rattle.ht_verdicts.specs.Standing.{Decides, VerdictsView}
use Rattle.ht_engine.specs.declared.settings.Search.TheVariants.{Deep}
use Rattle.ht_engine.specs.declared.settings.Settings.{Settings}
use Rattle.ht_engine.specs.declared.step.Step.{Step}
use Rattle.ht_engine.specs.declared.step.Step.TheVariants.{Entry}
use Rattle.ht_engine.specs.Steps.{entries_of, first_vectors, vectors_of_steps}
use Rattle.ht_files.specs.Generated.{content_of}
use Rattle.ht_files.specs.StepTexts.{proofs_of, tests_of}

-- The entries of faults from number k on, which counts from 0, as steps.
abbrev pub entry_steps : ℕ → List (Option recorded.Entry) → List Step
entry_steps k [] = []
entry_steps k (None ∷ rest) = entry_steps (k + 1) rest
entry_steps k (Some made ∷ rest) = Entry k made ∷ entry_steps (k + 1) rest

-- no vectors, or those that were given and others after them
abbrev pub BeginWith : List (List Bool) → List (List Bool) → Type 0
BeginWith given list = (list ≡ []) ⊎ ((more : List (List Bool)) × (list ≡ given ++ more))

-- The entry decides the fault of its number, which counts from 1.
pub record IsDeciding (c : Netlist) (representatives : List ℕ) (start : List Tern) (e : Numbered)
    : Type 0 where
  pub counted : 0 < e.number
  pub decides : Decides c representatives start (e.number - 1) e.entry

-- The steps of a full search: vectors, those that come before all work first of all, and entries, each of which decides
-- its fault. Which vectors and which entries, and in what order they were found, is not said.
pub record AreFound (c : Netlist) (settings : Settings) (steps : List Step) : Type 0 where
  pub representatives : List ℕ
  pub classes : AreClasses c representatives
  pub vectors : BeginWith (first_vectors c settings) (vectors_of_steps steps)
  pub entries : All (IsDeciding c representatives settings.start) (entries_of steps)

-- The steps tell all that verdicts keep: from the start, the vectors that they were graded with, and their entries.
-- Their proofs are of the format that has entries of all forms.
pub record TellAll (v : VerdictsView) (settings : Settings) (steps : List Step) : Type 0 where
  pub start : v.start ≡ settings.start
  pub search : settings.search ≡ Deep
  pub found : AreFound v.circuit settings steps
  pub wide : AreVectors v.circuit (vectors_of_steps steps)
  pub graded : ClassGraderStandsFor v.grader v.start (vectors_of_steps steps)
  pub entries : entries_of steps ≡ kept_entries v

-- The three files of a circuit are valid, and give one verdict to each fault of its list, which is true, as those of a
-- generator do (`IsGenerated`). None is aborted: a fault that is neither detected nor proved to be untestable or
-- undetectable is undetected, and then the written vectors don't detect it from the start.
pub record IsSearched (c : Netlist) (settings : Settings) (tests report proofs total : List ℕ)
    : Type 0 where
  pub representatives : List ℕ
  pub steps : List Step
  pub saids : List Said
  pub classes : AreClasses c representatives
  -- one true verdict for each fault
  pub valid : AreValid c representatives settings.start tests report proofs
      (content_of settings steps saids)
  pub verdicts : HaveTrueVerdicts c representatives (content_of settings steps saids)
  pub none_aborted : (i : ℕ) → IsOwn c representatives i → said_at saids i ≢ Aborted
  -- the files of all steps
  pub found : AreFound c settings steps
  pub tests_are : tests ≡ tests_of steps
  pub report_is : report ≡ report_text c representatives (Some settings.budget) saids
  pub proofs_are : proofs ≡ proofs_of settings steps
  pub total_is :
      total ≡ with_lf (total_line (report_sums representatives (Some settings.budget) saids))
