-- What the end of reading tells of the texts of a job, whatever the error.
use Rattle.std.proofs.Common.{◌≡◌, ◌≢◌, ◌⊎◌, inl, inr, ℕ, ◌≤◌, List, IsTrue, refl, arith}
use Rattle.std.specs.Prelude.{Some}
use Rattle.std.proofs.lemmas.Bool.{cases_lt}
use Rattle.ht_inputs.proofs.Common.{AcceptsInputs, DeskView, InPort, IsInput, JobBasis}
use Rattle.ht_inputs.proofs.Common.{ReadFault, RefusesFile, RunError, StopsReading, Usage, WriteFault, exit_status}
use Rattle.ht_inputs.proofs.Common.{input_name, order_of}
use Rattle.ht_ports.specs.Causes.{Rose}
use Rattle.ht_words.specs.Jobs.{asked_by}
use Rattle.ht_words.specs.declared.job.Job.{Job}
use Rattle.ht_asked.specs.Asked.{Asked}
use Rattle.ht_inputs.specs.declared.run_error.RunError.TheVariants.{NoMemory, NoSuchFault}
use Rattle.ht_inputs.specs.Inputs.{AreGoodInputs}
use Rattle.ht_inputs.specs.Jobs.{HoldsInputs}
use Rattle.ht_inputs.specs.Refusals.{HasRefusedInputs}
use Rattle.ht_inputs.proofs.FaultLaws.{lacks_good, lacks_refused}
use Rattle.ht_inputs.proofs.InputLaws.{IsRefusedBy, one_status, refused_with, say_none}

-- ---- inputs that are refused

-- a job that refuses a text among those that the desk tells
refused_among : (j : Job) (e : RunError) (a b : DeskView) (texts : InPort → List ℕ)
    (h : RefusesFile (asked_by j) e a b)
    → ((p : InPort) (name : List ℕ) → order_of (asked_by j) p ≤ order_of (asked_by j) h.port
    → input_name (asked_by j) p ≡ Some name → IsInput p name (texts p) a)
    → IsRefusedBy (asked_by j) texts (exit_status e)
refused_among j e a b texts h told = refused_with j texts h.basis e h.port h.name (record {
  at = h.at;
  reads = h.reads;
  stated = h.stated;
  fault = h.fault;
  refused = h.refused.told (texts h.port) (told h.port h.name (omega arith) h.reads);
  before = λ p name less reads. (h.before p less name reads).told (texts p) (told p name (omega (arith, less)) reads);
})

module _ (j : Job) (status : ℕ) (a : DeskView) (refused : HasRefusedInputs (asked_by j) status a) where
  -- they aren't accepted
  pub accepts_none : (basis : JobBasis) → ¬ AcceptsInputs (asked_by j) basis a
  accepts_none basis accepts =
      say_none j refused.texts refused.port refused.name status basis accepts.stated refused.reads
      refused.refused (λ p name less is. (accepts.each p name is).told (refused.texts p)
      (refused.told p name (omega (arith, less)) is))

  refusal_status : (b : DeskView) (e : RunError) → RefusesFile (asked_by j) e a b → exit_status e ≡ status
  refusal_status b e h = elim (cases_lt (order_of (asked_by j) refused.port) (order_of (asked_by j) h.port)) [
    | inl later ↦ absurd (say_none j refused.texts refused.port refused.name status h.basis h.stated
        refused.reads refused.refused
        (λ p name less is. (h.before p (omega (arith, less, later)) name is).told (refused.texts p)
        (refused.told p name (omega (arith, less)) is)))
    | inr early ↦
        let (port, name, reads, also) = refused_among j e a b refused.texts h
        (λ p name within is. refused.told p name (omega (arith, within, early)) is) in
        one_status j refused.texts port refused.port _ _ _ _ reads refused.reads also refused.refused
  ]

  -- on inputs that are refused, reading ends with their status, 4 (read fault) or 6 (no memory)
  pub stops_refused : (b : DeskView) (e : RunError) → StopsReading (asked_by j) a b e
      → (exit_status e ≡ status) ⊎ (exit_status e ≡ 4) ⊎ (exit_status e ≡ 6)
  stops_refused b Usage h = absurd h
  stops_refused b ReadFault h = inr (inl refl)
  stops_refused b WriteFault h = absurd h
  stops_refused b NoMemory h = inr (inr refl)
  stops_refused b (NoSuchFault faults) h = absurd (lacks_refused j status a b faults refused h)
  stops_refused b e h = inl (refusal_status b e h)

-- ---- good inputs

-- they aren't refused
good_refused : (j : Job) (a b : DeskView) (e : RunError) → RefusesFile (asked_by j) e a b
    → ¬ AreGoodInputs (asked_by j) a
good_refused j a b e h are =
    let (port, name, reads, refused) = refused_among j e a b are.texts h (λ p name within is. are.told p name is) in
    say_none j are.texts port name _ are.basis are.stated reads refused (λ p name less reads. are.say p name reads)

-- where no fault of reading was counted, memory ran out
pub stops_good : (j : Job) (a b : DeskView) (e : RunError) → StopsReading (asked_by j) a b e
    → AreGoodInputs (asked_by j) a → ((p : InPort) → ¬ Rose (a.in_faults p) (b.in_faults p)) → exit_status e ≡ 6
stops_good j a b Usage h are none = absurd h
stops_good j a b ReadFault h are none = absurd (none h.port h.rose)
stops_good j a b WriteFault h are none = absurd h
stops_good j a b NoMemory h are none = refl
stops_good j a b (NoSuchFault faults) h are none = absurd (lacks_good j a b faults are h)
stops_good j a b e h are none = absurd (good_refused j a b e h are)

-- ---- a steady desk

-- on a steady desk that holds the inputs, reading ends by no fault of reading (4) or writing (5)
pub stops_steady : (job : Asked) (a b : DeskView) (e : RunError) → StopsReading job a b e → IsTrue a.steady
    → HoldsInputs job a → (exit_status e ≢ 4) × (exit_status e ≢ 5)
stops_steady job a b Usage h steady holds = absurd h
stops_steady job a b ReadFault h steady holds = absurd (h.lacks steady (holds h.port h.name h.reads))
stops_steady job a b WriteFault h steady holds = absurd h
stops_steady job a b e h steady holds = (λ is. absurd (omega (arith, is)), λ is. absurd (omega (arith, is)))
