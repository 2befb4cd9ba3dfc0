-- What `demo` says.
use Rattle.std.proofs.Common.{◌≡◌, inl, ℕ, List, [], ◌∷◌, true, false, refl, sym, ◌∙◌, ap, subst}
use Rattle.std.specs.Prelude.{Result, Ok, Err, Some, None}
use Rattle.ht_app.proofs.Common.{AcceptsInputs, AreClasses, AreFinished, Asked, ChangedOnly, DeskView, Does, EndsJob}
use Rattle.ht_app.proofs.Common.{EngineStandsFor, EngineView, HasSameWork, Out, RunError, Settings, Step, Tries}
use Rattle.ht_words.specs.Jobs.{asked_by}
use Rattle.ht_words.specs.declared.job.Job.TheVariants as job_of
use Rattle.ht_inputs.proofs.InputLaws.{demo_reads_none}
use Rattle.ht_app.proofs.Common.{demo_netlist, put, reading, with_lf}
use Rattle.ht_net.specs.Circuit.Netlist as net
use Rattle.ht_texts.specs.Reports.{head_line}
use Rattle.ht_files.specs.Generated.{IsTotalOf}
use Rattle.ht_inputs.specs.declared.run_error.RunError.TheVariants.{NoMemory}
use Rattle.ht_app.specs.declared.demo.TheConstants.{DEMO_BUDGET}
use Rattle.ht_app.specs.Outputs.{SaysHead, demo_settings}
use Rattle.ht_app.proofs.ActLaws.{did_nothing}
use Rattle.ht_app.proofs.EndLaws.{ends_does, ends_tries, ends_unwritten}
use Rattle.ht_app.proofs.GenLaws.{of_circuit}
use Rattle.ht_inputs.proofs.ReadingLaws.{basis_of, lacks_at_first, no_circuit}
use Rattle.ht_net.proofs.MoreToldLaws.{unknown_is_start}
use Rattle.ht_app.proofs.PreparedLaws.{no_vectors}
use Rattle.ht_app.proofs.WritingLaws.{does_then, nothing_written}

-- ---- what is found before it speaks

-- the head line, from the circuit that was read
pub says_head : (size seed : ℕ) {c : net.Netlist} {representatives head : List ℕ} → c ≡ demo_netlist size seed
    → AreClasses c representatives → head ≡ with_lf (head_line c representatives (Some DEMO_BUDGET))
    → SaysHead size seed (put Out head ∷ [])
says_head size seed {representatives = representatives} is classes head_is = record {
  representatives = representatives;
  classes = subst (λ (d : net.Netlist). AreClasses d representatives) is classes;
  acts_are = ap (λ l. put Out l ∷ [])
      (head_is ∙ ap (λ (d : net.Netlist). with_lf (head_line d representatives (Some DEMO_BUDGET))) is);
}

-- the total line, from an engine that made all its steps
pub total_found : {c : net.Netlist} {representatives : List ℕ} {e new : EngineView} (total : List ℕ) → e.circuit ≡ c
    → e.representatives ≡ representatives → HasSameWork e new
    → (all : (steps : List Step) × EngineStandsFor new steps
    × AreFinished new.circuit new.representatives new.settings steps)
    → ((steps : List Step) → EngineStandsFor new steps
    → AreFinished c representatives new.settings steps → IsTotalOf c new.settings total)
    → IsTotalOf c e.settings total
total_found {c = c} {new = new} total of_c of_r same all found =
    subst (λ (s : Settings). IsTotalOf c s total) same.settings (found all.0 all.1
    (of_circuit (λ d r. AreFinished d r new.settings all.0) new (same.circuit ∙ of_c)
    (same.representatives ∙ of_r) all.2))

-- ---- what it leaves

module _ (size seed : ℕ) where
  abbrev job : Asked
  job = asked_by (job_of.Demo size seed)

  no_change : (a : DeskView) → ChangedOnly (reading job) a a
  no_change a = (nothing_written (reading job) a).changed

  inputs : (a : DeskView) → AcceptsInputs job (basis_of no_circuit [] []) a
  inputs a = record {
    stated = λ none. refl;
    each = λ p name is. let none : None ≡ Some name = sym (demo_reads_none size seed p) ∙ is in absurd (cc);
    circuit = λ some. let none : false ≡ true = some in absurd (cc);
    latches = unknown_is_start no_circuit;
    widths = no_vectors no_circuit;
  }

  -- `demo` may end for want of memory before it says anything
  pub ends_unsaid : (a : DeskView) → EndsJob {A = Unit {0}} job (Err NoMemory) a a
  ends_unsaid a = ends_unwritten job (no_change a) NoMemory (inl (did_nothing refl refl refl, lacks_at_first job a))

  module _ {head : List ℕ} (says : SaysHead size seed (put Out head ∷ [])) {a : DeskView} where
    -- if the head line stops by an error, `demo` ends by it
    pub ends_in_head : {b : DeskView} (e : RunError) → Tries {A = Unit {0}} (put Out head ∷ []) (Err e) a b
        → EndsJob {A = Unit {0}} job (Err e) a b
    ends_in_head e tries = ends_tries job (no_change a) (inputs a) (put Out head ∷ []) (Err e) tries
        ((refl, λ file. absurd file), tt) tt (inl (says, ((refl, λ file. absurd file), tt)))

    -- once the head line is said, `demo` ends as the total line does
    pub ends_by_total : {total : List ℕ} {m b : DeskView} (result : Result (Unit {0}) RunError)
        → IsTotalOf (demo_netlist size seed) (demo_settings (demo_netlist size seed) seed) total → Does
        (put Out head ∷ []) (Ok tt) a m
        → Does (put Out total ∷ []) result m b → EndsJob job result a b
    ends_by_total {total = total} result total_is first second =
        ends_does job (no_change a) (inputs a) (put Out head ∷ put Out total ∷ []) result (does_then first second)
        ((refl, λ file. absurd file), ((refl, λ file. absurd file), tt)) (record {
          first = put Out head ∷ [];
          total = total;
          head = says;
          total_is = total_is;
          acts_are = refl;
        })
