-- The headline: what the three files and the total line of a finished run say, and that it is true.
use Rattle.std.specs.Prelude.{◌≡◌, ◌≤◌, ℕ, List, Bool, Some}
use Rattle.ht_net.specs.Circuit.Netlist.{Netlist}
use Rattle.ht_faults.specs.Classes.{AreClasses, fault_at}
use Rattle.ht_tree.specs.declared.clause.Clause.{Clause}
use Rattle.ht_tree.specs.Walk.Budgets.{refutation_cost}
use Rattle.ht_tree.specs.Clause.Clauses.{literals_of_each}
use Rattle.ht_tree.specs.Clause.SealedInClauses.{SealedIn}
use Rattle.ht_invariant.specs.declared.finding.Invariant.{Invariant}
use Rattle.ht_texts.specs.declared.said.Said.{Said}
use Rattle.ht_texts.specs.declared.said.Said.TheVariants.{Untestable}
use Rattle.ht_texts.specs.Lines.{with_lf}
use Rattle.ht_texts.specs.Reports.{report_text, report_sums, total_line}
use Rattle.ht_texts.specs.Verdicts.{said_at}
use Rattle.ht_valid.specs.ValidFiles.{Content, AreValid, IsOwn}
use Rattle.ht_valid.specs.TrueVerdicts.{AreDecided, HaveTrueVerdicts, IsWorkedOn}
use Rattle.ht_engine.specs.declared.settings.Settings.{Settings}
use Rattle.ht_engine.specs.declared.step.Step.{Step}
use Rattle.ht_engine.specs.EngineStands.{IsSaid}
use Rattle.ht_engine.specs.FaultWork.{IsNamedInvariant}
use Rattle.ht_engine.specs.Steps.{AreFinished, AreSteps, IsChosen, entries_of, vectors_of_steps}
use Rattle.ht_files.specs.StepTexts.{proofs_of, tests_of}

-- What the files of steps say.
abbrev pub content_of : Settings → List Step → List Said → Content
content_of settings steps saids = record {
  start = settings.start;
  list = vectors_of_steps steps;
  budget = settings.budget;
  saids = saids;
  entries = entries_of steps;
}

-- With a budget for all windows of one frame, each representative that is to be worked on, and that some set of
-- flip-flops seals as long as the clauses are met, is said to be untestable.
abbrev pub AreDecidedIn : Netlist → List ℕ → Settings → List Said → List Clause → Type 0
AreDecidedIn c representatives settings saids clauses = refutation_cost c ≤ settings.budget → (i : ℕ)
    → IsOwn c representatives i → IsChosen representatives settings i → (z : ℕ → Bool)
    → SealedIn c (fault_at c i) z (literals_of_each clauses) → said_at saids i ≡ Untestable

-- The three files of a circuit are valid, and give one verdict to each fault of its list, which is true. A fault that
-- doesn't represent its class has the verdict of its representative, and what the proofs hold is of the representative.
--
-- - detected: at exactly the first written vector, and there the least output, where simulation over three values from
--   the stated start shows opposite definite values of the good and the faulty machine; so the two differ there from
--   every pair of states that the start allows;
-- - untestable: the proofs hold a refutation that passes, or one from a named state that the start allows; no list of
--   vectors of any length detects the fault, from all-unknown or from the stated start, and from every common start
--   state, or from the named one, both machines give equal outputs for ever;
-- - undetectable, with a checked family of sets, and then no sequence of any length detects it, from all-unknown or from
--   the stated start;
-- - aborted: the written vectors don't detect it from the stated start, and the proofs hold a record that used up the
--   budget;
-- - undetected: the written vectors don't detect it from the stated start. This is said only of a fault whose class
--   wasn't chosen to be worked on.
--
-- Where no start is stated it is all-unknown, and where no faults were chosen all are.
--
-- For n inputs and m flip-flops, a budget of 2^(n + 2m + 1) finds every chosen fault untestable that some set of
-- flip-flops seals, be it as long as the clauses are met that are found from the state named for the start, which holds
-- 0 where the start is unknown. One of the sum of k * 2^(k * n + 1) over k from 1 to d finds every chosen fault detected
-- that d vectors detect from all-unknown. The tests and the proofs hold the lists and the entries of the generator's
-- steps and nothing else: the first vectors are those that were given, then the random ones of the seed and then the
-- weighted ones, and the work on what they don't detect comes after them. A list that a sweep from the states reached
-- found is sure to detect its fault after the vectors before it, each other list of the work after any vectors. The total
-- line is that of the report.
pub record IsGenerated (c : Netlist) (settings : Settings) (tests report proofs total : List ℕ) : Type 0 where
  pub representatives : List ℕ
  pub steps : List Step
  pub saids : List Said
  pub classes : AreClasses c representatives
  -- one true verdict for each fault
  pub valid : AreValid c representatives settings.start tests report proofs (content_of settings steps saids)
  pub verdicts : HaveTrueVerdicts c representatives (content_of settings steps saids)
  pub worked_on : (i : ℕ) → IsOwn c representatives i → IsChosen representatives settings i
      → IsWorkedOn (content_of settings steps saids) i
  pub decided : AreDecided c representatives (IsChosen representatives settings) (content_of settings steps saids)
  pub invariant : Invariant
  pub found : IsNamedInvariant c settings.start settings.budget invariant
  pub decided_in : AreDecidedIn c representatives settings saids invariant.clauses
  -- the files of all steps
  pub steps_are : AreSteps c representatives settings steps
  pub finished : AreFinished c representatives settings steps
  pub tests_are : tests ≡ tests_of steps
  pub report_is : report ≡ report_text c representatives (Some settings.budget) saids
  pub proofs_are : proofs ≡ proofs_of settings steps
  pub total_is : total ≡ with_lf (total_line (report_sums representatives (Some settings.budget) saids))

-- The total line of the report on a circuit for which the generator's steps were all made: what they say of each
-- representative is counted.
pub record IsTotalOf (c : Netlist) (settings : Settings) (total : List ℕ) : Type 0 where
  pub representatives : List ℕ
  pub steps : List Step
  pub saids : List Said
  pub classes : AreClasses c representatives
  pub steps_are : AreSteps c representatives settings steps
  pub finished : AreFinished c representatives settings steps
  pub said : (i : ℕ) → IsOwn c representatives i → IsSaid c settings.start steps i (said_at saids i)
  pub total_is : total ≡ with_lf (total_line (report_sums representatives (Some settings.budget) saids))
