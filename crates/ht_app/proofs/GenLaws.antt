-- The files of `gen`, one part after the other.
use Rattle.std.proofs.Common.{◌≡◌, inl, inr, ℕ, ◌≤◌, ◌+◌, List, [], ◌∷◌, ◌++◌, Bool, true, ◌||◌, IsTrue, length, flat_map, refl, sym, ◌∙◌, ap, subst, arith}
use Rattle.std.specs.Prelude.{Result, Ok, Err, None, Option, Some, is_some, option_map}
use Rattle.std.specs.List.{list_any}
use Rattle.std.proofs.lemmas.List.{length-append}
use Rattle.std.proofs.lemmas.List.Folds.{list_any-append}
use Rattle.ht_app.proofs.Common.{AcceptsInputs, Act, AreClasses, AreFinished, AreSteps, Asked, ChangedOnly, DeskView}
use Rattle.ht_app.proofs.Common.{Does, EndsJob, EngineStandsFor, EngineView, Entry, Extra, Finished}
use Rattle.ht_app.proofs.Common.{HasSameWork, InPort, IsGenerated, JobBasis, Out, OutPort, PermitsAll, Ports}
use Rattle.ht_app.proofs.Common.{Rows, RunError, RunFiles, Settings, Step, Tries, Vectors, WritesAll, ending}
use Rattle.ht_words.specs.Jobs.{asked_by}
use Rattle.ht_words.specs.declared.job.GenOptions.{GenOptions}
use Rattle.ht_words.specs.declared.job.Job.TheVariants as job_of
use Rattle.ht_app.proofs.Common.{input_name, line_text, makes, max_text_bytes, order_of, proofs_of, proofs_so_far}
use Rattle.ht_app.proofs.Common.{put, reading, step_acts, tests_of, with_lf, writing}
use Rattle.ht_ports.specs.declared.ports.InPort.TheVariants as in_port
use Rattle.ht_ports.specs.declared.ports.OutPort.TheVariants.{Tests, Report, Proofs}
use Rattle.ht_net.specs.Circuit.Netlist as net
use Rattle.ht_texts.specs.SearchReports.{HasPlainNames}
use Rattle.ht_entries.specs.declared.proof_line.ProofLine.TheVariants.{End}
use Rattle.ht_files.proofs.StepTextLaws.{proofs_end}
use Rattle.ht_app.specs.Generating.{WritesTo}
use Rattle.ht_engine.specs.Steps as made_steps
use Rattle.ht_app.specs.Outputs.{AreGenerated, WritesFiles, WritesSteps, creation, settings_of, where_named}
use Rattle.ht_app.proofs.EndLaws.{begun, ends_tries}
use Rattle.ht_app.proofs.WritingLaws.{permits_then, tries_then}

-- ---- the parts of the files

abbrev pub begun_acts : RunFiles → Settings → List Step → List Act
begun_acts files settings steps =
    creation files ++ put Proofs (proofs_so_far settings []) ∷ flat_map step_acts steps

abbrev pub end_text : List ℕ
end_text = with_lf (line_text End)

abbrev pub end_part : List ℕ → List ℕ → List Act
end_part body total = put Proofs end_text ∷ put Report body ∷ put Out total ∷ ending Report total

module _ (files : RunFiles) (settings : Settings) (AreSo : List Step → Type 0)
    (IsLast : List Step → List ℕ → List ℕ → Type 0) {steps : List Step} (are : AreSo steps) where
  steps_written : WritesSteps files settings AreSo (begun_acts files settings steps)
  steps_written = record { steps = steps; steps_are = are; acts_are = refl }

  -- if the acts up to the last step stop by an error, so do the files
  pub stops_in_steps : {e : RunError} {a b : DeskView} → Tries {A = Unit {0}} (begun_acts files settings steps)
      (Err e) a b → WritesAll files settings AreSo IsLast (Err e) a b
  stops_in_steps tries =
      record { acts = begun_acts files settings steps; tries = tries; done = tt; stopped = inl steps_written }

  module _ (body total : List ℕ) (finished : IsLast steps (body ++ total) total) where
    all_written : WritesFiles files settings AreSo IsLast (begun_acts files settings steps ++ end_part body total)
    unfolding steps_written
    all_written = record {
      first = begun_acts files settings steps;
      begun = steps_written;
      body = body;
      total = total;
      acts_are = refl;
      finished = finished;
    }

    -- once all steps are written, the files end as the end line, the report and the total line do
    pub ends_after : {a m b : DeskView} (result : Result (Unit {0}) RunError)
        → Tries {A = Unit {0}} (begun_acts files settings steps) (Ok tt) a m → Does (end_part body total) result m b
        → WritesAll files settings AreSo IsLast result a b
    ends_after (Ok value) first does = record {
      acts = begun_acts files settings steps ++ end_part body total;
      tries = tries_then first does.tries;
      done = all_written;
      stopped = tt;
    }
    ends_after (Err e) first does = record {
      acts = begun_acts files settings steps ++ end_part body total;
      tries = tries_then first does.tries;
      done = tt;
      stopped = inr (does.only, all_written);
    }

-- no steps are those of a generator
pub no_steps : {c : net.Netlist} {settings : Settings} {representatives : List ℕ} → AreClasses c representatives
    → AreGenerated c settings []
no_steps {representatives = representatives} classes =
    record { representatives = representatives; classes = classes; steps_are = made_steps.none }

-- ---- what the engine's steps and the report say

-- what holds of an engine's circuit and classes
pub of_circuit : (P : net.Netlist → List ℕ → Type 0) (e : EngineView) {c : net.Netlist} {representatives : List ℕ}
    → e.circuit ≡ c → e.representatives ≡ representatives → P e.circuit e.representatives → P c representatives
of_circuit P e {c = c} of_c of_r p = subst (λ r. P c r) of_r (subst (λ d. P d e.representatives) of_c p)

-- if the counted bytes of the proofs with their end line fit a text, the whole proofs do
pub fits : (settings : Settings) (steps : List Step) {old new : ℕ} → old ≡ length (proofs_so_far settings steps)
    → new ≡ old + length end_text → new ≤ max_text_bytes → length (proofs_of settings steps) ≤ max_text_bytes
fits settings steps count more short = omega (
  arith,
  count,
  more,
  short,
  ap length (proofs_end settings steps),
  length-append (proofs_so_far settings steps) end_text,
)

-- what `write_report` says of a report
abbrev Reports : net.Netlist → List ℕ → EngineView → List ℕ → List ℕ → Type 0
Reports c representatives e body total = (steps : List Step) → EngineStandsFor e steps
    → AreFinished c representatives e.settings steps → HasPlainNames c
    → length (tests_of steps) ≤ max_text_bytes → length (proofs_of e.settings steps) ≤ max_text_bytes
    → IsGenerated c e.settings (tests_of steps) (body ++ total) (proofs_of e.settings steps) total

-- the files of a finished engine's steps and its report are generated, by the circuit that it began with
pub generated : {c : net.Netlist} {representatives : List ℕ} {old new : EngineView} {steps : List Step}
    (body total : List ℕ) → old.circuit ≡ c → old.representatives ≡ representatives → HasSameWork old new
    → EngineStandsFor new steps → AreFinished old.circuit old.representatives old.settings steps → HasPlainNames c
    → length (tests_of steps) ≤ max_text_bytes → length (proofs_of new.settings steps) ≤ max_text_bytes
    → Reports c representatives new body total
    → IsGenerated c old.settings (tests_of steps) (body ++ total) (proofs_of old.settings steps) total
generated {c = c} {representatives = representatives} {old = old} {steps = steps} body total of_c of_r same stands
    finished plain tests_fit proofs_fit reports =
    let are = subst (λ (s : Settings). AreFinished c representatives s steps) (sym same.settings)
    (of_circuit (λ d r. AreFinished d r old.settings steps) old of_c of_r finished) in
    subst (λ (s : Settings). IsGenerated c s (tests_of steps) (body ++ total) (proofs_of s steps) total) same.settings
    (reports steps stands are plain tests_fit proofs_fit)

-- ---- what is permitted

made_still : (p : OutPort) (before acts : List Act) → IsTrue (list_any (makes p) before)
    → IsTrue (list_any (makes p) (before ++ acts))
made_still p before acts made =
    list_any-append (makes p) before acts ∙ ap (λ (f : Bool). f || list_any (makes p) acts) made

module _ (ports : Ports) (tests : ports.writes Tests ≡ true) (proofs : ports.writes Proofs ≡ true) where
  step_permitted : (before : List Act) → IsTrue (list_any (makes Tests) before)
      → IsTrue (list_any (makes Proofs) before) → (step : Step) → PermitsAll ports before (step_acts step)
  step_permitted before of_tests of_proofs (Vectors list) = ((tests, λ file. of_tests), tt)
  step_permitted before of_tests of_proofs (Entry fault entry) = ((proofs, λ file. of_proofs), tt)
  step_permitted before of_tests of_proofs Finished = tt

  steps_permitted : (before : List Act) → IsTrue (list_any (makes Tests) before)
      → IsTrue (list_any (makes Proofs) before) → (steps : List Step)
      → PermitsAll ports before (flat_map step_acts steps)
  steps_permitted before of_tests of_proofs [] = tt
  steps_permitted before of_tests of_proofs (step ∷ steps) = permits_then ports before (step_acts step)
      (flat_map step_acts steps) (step_permitted before of_tests of_proofs step)
      (steps_permitted (before ++ step_acts step) (made_still Tests before (step_acts step) of_tests)
      (made_still Proofs before (step_acts step) of_proofs) steps)

  begun_permitted : {files : RunFiles} {settings : Settings} {AreSo : List Step → Type 0} {acts : List Act}
      → PermitsAll ports [] (begun_acts files settings []) → WritesSteps files settings AreSo acts
      → PermitsAll ports [] acts
  begun_permitted {files = files} {settings = settings} first w = subst (PermitsAll ports []) (sym w.acts_are)
      (permits_then ports [] (begun_acts files settings []) (flat_map step_acts w.steps) first
      (steps_permitted (begun_acts files settings []) refl refl w.steps))

-- ---- the end of the job

module _ (files : RunFiles) (options : GenOptions) where
  abbrev job : Asked
  job = asked_by (job_of.Gen files options)

  steps_may : {settings : Settings} {AreSo : List Step → Type 0} {acts : List Act}
      → WritesSteps files settings AreSo acts → PermitsAll (writing job) [] acts
  steps_may w = begun_permitted (writing job) refl refl
      ((refl, refl), ((refl, refl), ((refl, refl), ((refl, λ file. refl), tt)))) w

  files_may : {settings : Settings} {AreSo : List Step → Type 0} {IsLast : List Step → List ℕ → List ℕ → Type 0}
      {acts : List Act} → WritesFiles files settings AreSo IsLast acts → PermitsAll (writing job) [] acts
  files_may w = subst (PermitsAll (writing job) []) (sym w.acts_are)
      (permits_then (writing job) [] w.first (end_part w.body w.total) (steps_may w.begun)
      (subst (λ (l : List Act). PermitsAll (writing job) l (end_part w.body w.total)) (sym w.begun.acts_are)
      ((refl, λ file. refl), ((refl, λ file. refl), ((refl, λ file. absurd file), ((refl, λ file. refl), tt))))))

  -- `gen` ends as its files do, once its inputs are accepted
  pub ends_files : {basis : JobBasis} {a m b : DeskView} → ChangedOnly (reading job) a m → AcceptsInputs job basis a
      → (result : Result (Unit {0}) RunError)
      → WritesTo options.depth options.work files basis.circuit (settings_of basis job) result m b
      → EndsJob job result a b
  ends_files x inputs (Ok value) w =
      ends_tries job x inputs w.acts (Ok value) w.tries (files_may w.done) (files, refl, w.done) tt
  ends_files x inputs (Err e) w = elim w.stopped [
    | inl part ↦ ends_tries job x inputs w.acts (Err e) w.tries (steps_may part) tt (inl (
      (files, refl, part),
      begun_permitted (begun job) refl refl
          ((refl, refl), ((refl, refl), ((refl, refl), ((refl, λ file. refl), tt)))) part,
    ))
    | inr whole ↦ ends_tries job x inputs w.acts (Err e) w.tries (files_may whole.1) tt
        (inr (whole.0, (files, refl, whole.1)))
  ]

  -- `gen` reads no file after the list of faults
  pub no_more : (p : InPort) → 6 ≤ order_of job p → input_name job p ≡ None
  no_more in_port.Netlist late = absurd (omega (arith, late))
  no_more in_port.Extra late = absurd (omega (arith, late))
  no_more in_port.Tests late = absurd (omega (arith, late))
  no_more in_port.Report late = absurd (omega (arith, late))
  no_more in_port.Proofs late = absurd (omega (arith, late))
  no_more in_port.Faults late = absurd (omega (arith, late))

-- ---- what the files that the options name tell the engine

-- the vectors of a file that may be named
pub given_first : (v : Rows) (name : Option (List ℕ)) (width : ℕ) → v.width ≡ width → (name ≡ None → v.list ≡ [])
    → v ≡ record { width = width; list = where_named name v.list }
given_first v (Some name) width is none = ap (λ (n : ℕ). record v { width = n }) is
given_first v None width is none = ap (λ (n : ℕ). record v { width = n }) is
    ∙ ap (λ (l : List (List Bool)). record v { width = width; list = l }) (none refl)

-- the numbers of a list of faults that may be there
abbrev pub numbers_of : Option (List ℕ) → List ℕ
numbers_of (Some numbers) = numbers
numbers_of None = []

-- numbers that are there exactly if a list of faults is named are what that list says
pub given_numbers : (numbers name : Option (List ℕ)) → is_some numbers ≡ is_some name
    → numbers ≡ option_map (λ _. numbers_of numbers) name
given_numbers (Some numbers) (Some name) is = refl
given_numbers None None is = refl
given_numbers (Some numbers) None is = cc
given_numbers None (Some name) is = cc
