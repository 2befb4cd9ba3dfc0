-- The engine's steps, written and counted one after the other.
use Rattle.std.proofs.Common.{◌≡◌, ◌≢◌, ℕ, ◌+◌, ◌≤◌, List, [], ◌∷◌, ◌++◌, false, true, length, flat_map, refl, sym, ◌∙◌, ap, subst, arith, append_assoc, append-nil}
use Rattle.std.specs.Prelude.{◌↔◌, Bool, Result, Ok, Err, IfOk, OnOk}
use Rattle.std.proofs.lemmas.Bool.{false≢true}
use Rattle.std.proofs.lemmas.Result.{IfOk-at_ok, on_ok_weaker}
use Rattle.std.proofs.lemmas.List.{length-append}
use Rattle.std.proofs.lemmas.List.Concat.{flat_map-append}
use Rattle.ht_app.proofs.Common.{Act, AreFinished, AreSteps, DeskView, EngineStandsFor, EngineView, Entry, Finished, HasSameWork}
use Rattle.ht_app.proofs.Common.{Makes, Rows, RunError, Settings, Sizes, StandsAt, Step, Tries, Vectors, WritesOn}
use Rattle.ht_app.proofs.Common.{max_text_bytes, proofs_so_far, put, step_acts, tests_of}
use Rattle.ht_ports.specs.declared.ports.OutPort.TheVariants.{Tests, Proofs}
use Rattle.ht_net.specs.Circuit.Netlist as net
use Rattle.ht_tree.specs.declared.entry.Entry as recorded
use Rattle.ht_engine.specs.Steps.{one_more}
use Rattle.ht_engine.specs.EngineStands.{MakesStep}
use Rattle.ht_files.specs.StepTexts.{proofs_step, step_text, tests_step}
use Rattle.ht_files.proofs.StepTextLaws.{proofs_grow, tests_grow}
use Rattle.ht_files.specs.declared.text_size.TextSize.{TextSize}
use Rattle.ht_inputs.specs.declared.run_error.RunError.TheVariants.{NoMemory}
use Rattle.ht_app.specs.Generating.{Adds, AreSizesOf, CountsStep}
use Rattle.ht_app.proofs.WritingLaws.{runs_out_first, tries_then}

-- ---- where the text of a step goes

-- the text of a step that gives a list is put in the tests
pub list_acts : {step : Step} {list : Rows} {text : List ℕ} → step ≡ Vectors list → text ≡ step_text step
    → put Tests text ∷ [] ≡ step_acts step
list_acts is e = ap (λ t. put Tests t ∷ []) (e ∙ ap step_text is) ∙ sym (ap step_acts is)

-- the text of a step that gives an entry is put in the proofs
pub entry_acts : {step : Step} {fault : ℕ} {entry : recorded.Entry} {text : List ℕ} → step ≡ Entry fault entry
    → text ≡ step_text step → put Proofs text ∷ [] ≡ step_acts step
entry_acts is e = ap (λ t. put Proofs t ∷ []) (e ∙ ap step_text is) ∙ sym (ap step_acts is)

-- if the size of the tests grows by the text of a list and stays a text's, it counts the step
pub counts_list : {step : Step} {list : Rows} {text : List ℕ} (old : Sizes) (new : TextSize) → step ≡ Vectors list
    → text ≡ step_text step → new.bytes ≡ old.tests.bytes + length text → new.bytes ≤ max_text_bytes
    → CountsStep step old (record old { tests = new })
counts_list old new is e counts short = record {
  tests = counts ∙ ap (λ t. old.tests.bytes + length t) (e ∙ ap step_text is ∙ sym (ap tests_step is));
  proofs = omega (arith, ap (λ s. length (proofs_step s)) is);
  short = λ before. short;
}

-- if the size of the proofs grows by the text of an entry, it counts the step
pub counts_entry : {step : Step} {fault : ℕ} {entry : recorded.Entry} {text : List ℕ} (old : Sizes) (new : TextSize)
    → step ≡ Entry fault entry → text ≡ step_text step → new.bytes ≡ old.proofs.bytes + length text
    → CountsStep step old (record old { proofs = new })
counts_entry old new is e counts = record {
  tests = omega (arith, ap (λ s. length (tests_step s)) is);
  proofs = counts ∙ ap (λ t. old.proofs.bytes + length t) (e ∙ ap step_text is ∙ sym (ap proofs_step is));
  short = λ before. before;
}

-- the end adds nothing to the sizes
pub counts_nothing : {step : Step} (sizes : Sizes) → step ≡ Finished → CountsStep step sizes sizes
counts_nothing sizes is = record {
  tests = omega (arith, ap (λ s. length (tests_step s)) is);
  proofs = omega (arith, ap (λ s. length (proofs_step s)) is);
  short = λ before. before;
}

-- ---- the work stays

-- an engine works on the same as itself
pub same_work : (e : EngineView) → HasSameWork e e
same_work e = record { circuit = refl; representatives = refl; settings = refl }

-- if two changes leave what an engine works on as it was, both together do
pub same_work_trans : {a b c : EngineView} → HasSameWork a b → HasSameWork b c → HasSameWork a c
same_work_trans x y = record {
  circuit = y.circuit ∙ x.circuit;
  representatives = y.representatives ∙ x.representatives;
  settings = y.settings ∙ x.settings;
}

-- what holds of the work of one engine holds of the same work
same_as : (P : net.Netlist → List ℕ → Settings → Type 0) (old new : EngineView) → HasSameWork old new
    → P new.circuit new.representatives new.settings → P old.circuit old.representatives old.settings
same_as P old new same p = subst (λ c. P c old.representatives old.settings) same.circuit
    (subst (λ r. P new.circuit r old.settings) same.representatives
    (subst (λ s. P new.circuit new.representatives s) same.settings p))

-- steps that are finished are finished for an engine that works on the same
pub finished_later : {old new : EngineView} {steps : List Step} → HasSameWork old new
    → AreFinished old.circuit old.representatives old.settings steps
    → AreFinished new.circuit new.representatives new.settings steps
finished_later {old = old} {new = new} {steps = steps} same = same_as (λ c r s. AreFinished c r s steps) new old
    (record { circuit = sym same.circuit; representatives = sym same.representatives; settings = sym same.settings })

-- a step that an engine made, but the end, may come next, and the engine stands for the steps with it
pub makes_step : {old new : EngineView} {steps : List Step} (step : Step) → step ≢ Finished → Makes old new steps step
    → MakesStep old new steps step
makes_step Finished other made = absurd (other refl)
makes_step step other made = made

-- ---- no step more, or one

-- no step more is written
nothing_more : {A : Type 0} {steps : List Step} {AtEnd : Type 0} {e later : EngineView} {sizes : Sizes}
    {result : Result A RunError} {a b : DeskView}
    → AreSteps e.circuit e.representatives e.settings steps → Tries [] result a b
    → OnOk result (StandsAt steps later sizes)
    → (AtEnd → AreFinished e.circuit e.representatives e.settings steps)
    → WritesOn steps AtEnd e later sizes result a b
nothing_more {steps = steps} {e = e} {later = later} {sizes = sizes} {result = result} are tries stands finished =
    let same = sym (append-nil steps) in
    record {
      more = [];
      are = subst (AreSteps e.circuit e.representatives e.settings) same are;
      tries = tries;
      stands = subst (λ (l : List Step). OnOk result (StandsAt l later sizes)) same stands;
      finished = λ end. subst (AreFinished e.circuit e.representatives e.settings) same (finished end);
    }

-- if memory runs out before the end, no step more is written
pub runs_out : {A : Type 0} {steps : List Step} {AtEnd : Type 0} {e : EngineView} {before : Sizes} (later : EngineView)
    (sizes : Sizes) (a : DeskView) → StandsAt steps e before → (AtEnd → ⊥)
    → WritesOn {A = A} steps AtEnd e later sizes (Err NoMemory) a a
runs_out {A} later sizes a stands never =
    nothing_more stands.engine.are (runs_out_first A [] a) tt (λ end. absurd (never end))

-- the bytes of one step more are counted
counted_more : (bytes more all : List ℕ) (old new : ℕ) → all ≡ bytes ++ more → old ≡ length bytes
    → new ≡ old + length more → new ≡ length all
counted_more bytes more all old new is before counts =
    omega (arith, counts, before, ap length is, length-append bytes more)

-- the sizes with one step more
pub counted_step : {settings : Settings} {steps : List Step} {step : Step} {before after : Sizes}
    → AreSizesOf settings steps before → CountsStep step before after
    → AreSizesOf settings (steps ++ step ∷ []) after
counted_step {settings = settings} {steps = steps} {step = step} are counts = record {
  tests = counted_more (tests_of steps) (tests_step step) _ _ _ (tests_grow steps step) are.tests counts.tests;
  proofs = counted_more (proofs_so_far settings steps) (proofs_step step) _ _ _ (proofs_grow settings steps step)
      are.proofs counts.proofs;
  short = counts.short are.short;
}

module _ {A : Type 0} {steps : List Step} {old new : EngineView} {step : Step} {before : Sizes} (after : Sizes)
    (stands : StandsAt steps old before) (same : HasSameWork old new) (made : MakesStep old new steps step) where
  stands_later : (result : Result A RunError) → OnOk result (CountsStep step before after)
      → OnOk result (StandsAt (steps ++ step ∷ []) new after)
  stands_later (Ok value) counts = record {
    engine = made.stands;
    counted = subst (λ (s : Settings). AreSizesOf s (steps ++ step ∷ []) after) (sym same.settings)
        (counted_step stands.counted counts);
  }
  stands_later (Err error) counts = tt

  -- a step that was made and counted, and whose text was tried to be put, is one step more that is written
  pub made_one : {AtEnd : Type 0} {a b : DeskView} (result : Result A RunError) → Tries (step_acts step) result a b
      → OnOk result (CountsStep step before after) → (AtEnd → ⊥) → WritesOn steps AtEnd old new after result a b
  made_one {a = a} {b = b} result tries counts never = record {
    more = step ∷ [];
    are = one_more steps step stands.engine.are made.follows;
    tries = subst (λ (l : List Act). Tries l result a b) (sym (append-nil (step_acts step))) tries;
    stands = stands_later result counts;
    finished = λ end. absurd (never end);
  }

-- the sizes with the end, which adds nothing
counted_nothing : {settings : Settings} {steps : List Step} {before after : Sizes} → AreSizesOf settings steps before
    → CountsStep Finished before after → AreSizesOf settings steps after
counted_nothing are counts = record {
  tests = omega (arith, are.tests, counts.tests);
  proofs = omega (arith, are.proofs, counts.proofs);
  short = counts.short are.short;
}

-- the end leaves the steps and their sizes
stands_at_end : {steps : List Step} {old new : EngineView} {before after : Sizes} → StandsAt steps old before
    → HasSameWork old new → EngineStandsFor new steps → CountsStep Finished before after → StandsAt steps new after
stands_at_end {steps = steps} {old = old} {after = after} stands same engine counts = record {
  engine = engine;
  counted = subst (λ (s : Settings). AreSizesOf s steps after) (sym same.settings)
      (counted_nothing stands.counted counts);
}

-- a result that is true exactly where the step isn't the end isn't false at another step
never_false : {step : Step} {result : Result Bool RunError} → step ≢ Finished
    → IfOk result (λ more. more ≡ true ↔ step ≢ Finished) → result ≡ Ok false → ⊥
never_false {step = step} other more is =
    false≢true ((IfOk-at_ok (λ (m : Bool). m ≡ true ↔ step ≢ Finished) is more).1 other)

-- A step that an engine made, and that was tried to be written, is one step more that is written, but the end. There
-- the steps are all.
pub wrote_made : {steps : List Step} {old new : EngineView} {before : Sizes} (after : Sizes) {a b : DeskView}
    (step : Step) (result : Result Bool RunError) → StandsAt steps old before → HasSameWork old new
    → Makes old new steps step → IfOk result (λ more. more ≡ true ↔ step ≢ Finished)
    → OnOk result (CountsStep step before after) → Tries (step_acts step) result a b
    → WritesOn steps (result ≡ Ok false) old new after result a b
wrote_made after Finished result stands same made more counted tries = nothing_more stands.engine.are tries
    (on_ok_weaker result (λ counts. stands_at_end stands same made.1 counts) counted) (λ end. made.0)
wrote_made after (Vectors list) result stands same made more counted tries =
    made_one after stands same made result tries counted (never_false (λ is. cc) more)
wrote_made after (Entry fault entry) result stands same made more counted tries =
    made_one after stands same made result tries counted (never_false (λ is. cc) more)

-- ---- steps after steps

-- steps that are written on after others are written on together with them
pub writes_then : {A B : Type 0} {steps : List Step} {e l new : EngineView} {between after : Sizes} {E : Type 0}
    (F : Type 0) {r : Result A RunError} (s : Result B RunError) {a m b : DeskView} → HasSameWork e l
    → (first : WritesOn {A = Unit {0}} steps ⊥ e l between (Ok tt) a m)
    → WritesOn (steps ++ first.more) E l new after r m b → (F → E)
    → ((acts : List Act) → Tries acts r m b → Tries acts s m b)
    → ((all : List Step) → OnOk r (StandsAt all new after) → OnOk s (StandsAt all new after))
    → WritesOn steps F e new after s a b
writes_then {steps = steps} {e = e} {l = l} {new = new} {after = after} F s {a = a} {b = b} same first second ends tries
    stands =
    let all = append_assoc steps first.more second.more in
    record {
      more = first.more ++ second.more;
      are = same_as (λ c r s. AreSteps c r s (steps ++ (first.more ++ second.more))) e l same
          (subst (AreSteps l.circuit l.representatives l.settings) all second.are);
      tries = subst (λ (acts : List Act). Tries acts s a b) (sym (flat_map-append step_acts first.more second.more))
          (tries_then first.tries (tries (flat_map step_acts second.more) second.tries));
      stands = subst (λ (l : List Step). OnOk s (StandsAt l new after)) all (stands _ second.stands);
      finished = λ end.
          same_as (λ c r s. AreFinished c r s (steps ++ (first.more ++ second.more))) e l same
          (subst (AreFinished l.circuit l.representatives l.settings) all (second.finished (ends end)));
    }
