-- A fault that isn't one of the circuit: it is refused with one status, and with no other.
use Rattle.std.proofs.Common.{◌≡◌, ◌≤◌, ◌<◌, ◌⊎◌, Bool, true, false, inl, inr, ℕ, List, length, refl, sym, ap, subst, arith}
use Rattle.std.specs.Prelude.{Option, Some, None}
use Rattle.std.proofs.lemmas.Bool.{cases_lt}
use Rattle.ht_inputs.proofs.Common.{Asked, DeskView, EndsReading, Extra, HasReadTo}
use Rattle.ht_inputs.proofs.Common.{InPort, IsGoodNetlist, IsInput, IsRefusedFor, JobBasis, ReadFault, RefusesFile}
use Rattle.ht_inputs.proofs.Common.{RunError, StopsReading, Tern, Usage, WasRead, WriteFault}
use Rattle.ht_inputs.proofs.Common.{exit_status, input_name, one_circuit, order_of, refused_port}
use Rattle.ht_ports.specs.declared.ports.InPort.TheVariants.{Netlist, Tests, Report, Proofs}
use Rattle.ht_net.specs.Circuit.Netlist as net
use Rattle.ht_faults.specs.Sites.{faults_of}
use Rattle.ht_texts.specs.StartTexts.{IsMalformedStart}
use Rattle.ht_texts.proofs.StartLaws.{start_or_malformed}
use Rattle.ht_words.specs.Jobs.{asked_by}
use Rattle.ht_words.specs.declared.job.Job.{Job}
use Rattle.ht_words.specs.declared.job.Job.TheVariants as job
use Rattle.ht_inputs.specs.declared.run_error.RunError.TheVariants.{BadStart, NoMemory, NoSuchFault, Refused, TooLong}
use Rattle.ht_inputs.specs.Inputs.{AcceptsFile, AreGoodInputs, HasFault, IsListed, SaysBasis}
use Rattle.ht_inputs.specs.Jobs.{judges, may_state_start, turn_of}
use Rattle.ht_inputs.specs.Refusals.{AreRefusedWith, FaultStops, HasNoSuchFault, HasRefusedInputs, IsAbove, IsStartIn}
use Rattle.ht_inputs.specs.Refusals.{LacksFault, NamesAbove}
use Rattle.ht_inputs.proofs.InputLaws.{good_netlist, netlist_named, say_none}
use Rattle.ht_inputs.proofs.ReadingLaws.{lacks_there, no_room}

-- the circuit of the netlist that the desk tells is that of the netlist that was read
same_told : (texts : InPort → List ℕ) (name : List ℕ) (a : DeskView) (c : net.Netlist) (asks : Asked)
    (basis : JobBasis) → IsGoodNetlist (texts Netlist) c → IsInput Netlist name (texts Netlist) a
    → WasRead Netlist name (SaysBasis asks basis Netlist) a → c ≡ basis.circuit
same_told texts name a c asks basis good told read = one_circuit (texts Netlist) c basis.circuit good.stands
    (good_netlist (judges asks.command) basis (texts Netlist) (read.told (texts Netlist) told)).stands

-- a number above that of the last fault is no fault's
above_unlisted : (c d : net.Netlist) (number : Option ℕ) (faults : ℕ) → c ≡ d → IsAbove c number faults
    → ¬ IsListed d number
above_unlisted c d None faults same above listed = above
above_unlisted c d (Some number) faults same above listed =
    let count : length (faults_of c) ≡ length (faults_of d) = ap (λ (n : net.Netlist). length (faults_of n)) same in
    omega (arith, count, above.0, above.1, listed)

-- the tests come after the netlist, and before the report, the proofs and the list of faults
tests_later : (starts : Bool) → 0 < turn_of Tests starts
tests_later true = omega arith
tests_later false = omega arith

-- ---- a run that ends for it

-- it does after the netlist and the start are read
pub fault_ends : {asks : Asked} {basis : JobBasis} {a m : DeskView} → may_state_start asks ≡ true
    → HasReadTo asks basis 2 a m → (e : RunError) → FaultStops basis.circuit asks.numbers.fault e
    → EndsReading asks a m e
fault_ends may h NoMemory stops = no_room h
fault_ends may h (NoSuchFault faults) stops = lacks_there h faults (ap (turn_of Tests) may) (omega arith) stops
fault_ends may h e stops = absurd stops

-- tests, and what is read after them, are refused only where the fault is one of the circuit
late_refused : (j : Job) (texts : InPort → List ℕ) (basis : JobBasis) (port : InPort) (status faults : ℕ)
    → order_of (asked_by j) Tests ≤ order_of (asked_by j) port → AreRefusedWith (asked_by j) texts port status
    → NamesAbove (asked_by j) basis.circuit faults → IsGoodNetlist (texts Netlist) basis.circuit → ⊥
late_refused j texts basis Netlist status faults late r above good =
    omega (arith, late, tests_later (may_state_start (asked_by j)))
late_refused j texts basis Report status faults late r above good = r
late_refused (job.Respond netlist tests out fault start lines) texts basis Proofs status faults late r above good =
    let (c, circuit, (representatives, values, classes, is, none)) = r.1 in none tt
late_refused j texts basis Proofs status faults late r above good = above
late_refused j texts basis port status faults late r above good =
    above_unlisted basis.circuit r.basis.circuit (asked_by j).numbers.fault faults
    (one_circuit (texts Netlist) basis.circuit r.basis.circuit good.stands r.circuit.stands) above (r.fault late)

-- a job whose inputs are refused doesn't end because the fault that it names isn't the circuit's
pub lacks_refused : (j : Job) (status : ℕ) (a b : DeskView) (faults : ℕ) → HasRefusedInputs (asked_by j) status a
    → ¬ LacksFault (asked_by j) faults a b
lacks_refused j status a b faults refused h =
    elim (cases_lt (order_of (asked_by j) refused.port) (order_of (asked_by j) Tests)) [
      | inl early ↦ say_none j refused.texts refused.port refused.name status h.basis h.stated refused.reads
          refused.refused (λ p name less is. (h.before p (omega (arith, less, early)) name is).told (refused.texts p)
          (refused.told p name (omega (arith, less)) is))
      | inr late ↦
          let (n, named) = netlist_named j refused.port refused.name refused.reads in
          let first = tests_later (may_state_start (asked_by j)) in
          late_refused j refused.texts h.basis refused.port status faults late refused.refused h.above
          (good_netlist (judges (asked_by j).command) h.basis (refused.texts Netlist)
          ((h.before Netlist first n named).told (refused.texts Netlist)
          (refused.told Netlist n (omega (arith, first, late)) named)))
    ]

-- nor does it with good inputs
pub lacks_good : (j : Job) (a b : DeskView) (faults : ℕ) → AreGoodInputs (asked_by j) a
    → ¬ LacksFault (asked_by j) faults a b
lacks_good (job.Respond netlist tests out number start lines) a b faults are h =
    let asks = asked_by (job.Respond netlist tests out number start lines) in
    let same = same_told are.texts netlist a are.basis.circuit asks h.basis (are.say Netlist netlist refl)
    (are.told Netlist netlist refl) (h.before Netlist (omega arith) netlist refl) in
    above_unlisted h.basis.circuit are.basis.circuit number faults (sym same) h.above are.fault
lacks_good j a b faults are h = h.above

-- ---- a fault that isn't one of the circuit

-- where a netlist is accepted its circuit doesn't have the fault
pub unlisted_accepts : (j : Job) (a : DeskView) → HasNoSuchFault (asked_by j) a → (basis : JobBasis)
    → AcceptsFile (asked_by j) basis Netlist a → ¬ HasFault (asked_by j) basis.circuit
unlisted_accepts (job.Respond netlist tests out number start lines) a lacks basis accepts has =
    let same = same_told lacks.texts netlist a lacks.circuit
    (asked_by (job.Respond netlist tests out number start lines)) basis lacks.netlist
    (lacks.told Netlist netlist (omega arith) refl) (accepts netlist refl) in
    lacks.unlisted (subst (λ (c : net.Netlist). IsListed c number) (sym same) has)
unlisted_accepts j a lacks basis accepts has = lacks.unlisted tt

-- ---- no other text is refused

-- a refused text that is read before the tests is one that the desk tells
text_at : (j : Job) (e : RunError) (a b : DeskView) (h : RefusesFile (asked_by j) e a b)
    (lacks : HasNoSuchFault (asked_by j) a) → order_of (asked_by j) h.port < order_of (asked_by j) Tests
    → IsRefusedFor (asked_by j) h.basis e (lacks.texts h.port)
text_at j e a b h lacks early =
    h.refused.told (lacks.texts h.port) (lacks.told h.port h.name early h.reads)

-- a start that the desk tells isn't refused
not_malformed : (start : Option (List ℕ)) (name : List ℕ) (texts : InPort → List ℕ) (c d : net.Netlist)
    (values : List Tern) (line : ℕ) → start ≡ Some name → c ≡ d → IsStartIn start c texts values
    → ¬ IsMalformedStart (length d.dffs) (texts Extra) line
not_malformed (Some n) name texts c d values line reads same is bad =
    (start_or_malformed (length c.dffs) (texts Extra)).never_both values line is
    (subst (λ (n : net.Netlist). IsMalformedStart (length n.dffs) (texts Extra) line) (sym same) bad)
not_malformed None name texts c d values line reads same is bad = cc

-- a text that `respond` refuses at a port before the tests is good
respond_refused : (netlist tests out : List ℕ) (number : Option ℕ) (start : Option (List ℕ)) (lines : Bool)
    (a b : DeskView) (e : RunError) (port : InPort) (name : List ℕ) (basis : JobBasis)
    (lacks : HasNoSuchFault (asked_by (job.Respond netlist tests out number start lines)) a)
    → input_name (asked_by (job.Respond netlist tests out number start lines)) port ≡ Some name
    → order_of (asked_by (job.Respond netlist tests out number start lines)) port < 2
    → refused_port (asked_by (job.Respond netlist tests out number start lines)) e ≡ Some port
    → (0 < order_of (asked_by (job.Respond netlist tests out number start lines)) port → lacks.circuit ≡ basis.circuit)
    → ¬ IsRefusedFor (asked_by (job.Respond netlist tests out number start lines)) basis e (lacks.texts port)
respond_refused netlist tests out number start lines a b TooLong Netlist name basis lacks reads early at same wrong =
    omega (arith, wrong, lacks.netlist.short)
respond_refused netlist tests out number start lines a b (Refused error) Netlist name basis lacks reads early at same
    wrong =
    wrong.none lacks.circuit lacks.netlist.stands
respond_refused netlist tests out number start lines a b (BadStart line) Extra name basis lacks reads early at same
    wrong =
    not_malformed start name lacks.texts lacks.circuit basis.circuit lacks.start line reads (same (omega arith))
    lacks.started wrong
respond_refused netlist tests out number start lines a b e Netlist name basis lacks reads early at same wrong = cc
respond_refused netlist tests out number start lines a b e Extra name basis lacks reads early at same wrong = cc
respond_refused netlist tests out number start lines a b e port name basis lacks reads early at same wrong =
    omega (arith, early)

no_refusal : (j : Job) (a b : DeskView) (e : RunError) → RefusesFile (asked_by j) e a b
    → ¬ HasNoSuchFault (asked_by j) a
no_refusal (job.Respond netlist tests out number start lines) a b e h lacks =
    let asks = asked_by (job.Respond netlist tests out number start lines) in
    elim (cases_lt (order_of asks h.port) 2) [
      | inl early ↦ respond_refused netlist tests out number start lines a b e h.port h.name h.basis lacks h.reads early
          h.at
          (λ some. same_told lacks.texts netlist a lacks.circuit asks h.basis lacks.netlist
          (lacks.told Netlist netlist (omega arith) refl) (h.before Netlist some netlist refl))
          (text_at (job.Respond netlist tests out number start lines) e a b h lacks early)
      | inr late ↦ unlisted_accepts (job.Respond netlist tests out number start lines) a lacks h.basis
          (h.before Netlist (omega (arith, late))) (h.fault late)
    ]
no_refusal j a b e h lacks = lacks.unlisted tt

-- if the fault that a job names isn't the circuit's, reading ends with 12, 4 (read fault) or 6 (no memory)
pub stops_unlisted : (j : Job) (a b : DeskView) (e : RunError) → StopsReading (asked_by j) a b e
    → HasNoSuchFault (asked_by j) a → (exit_status e ≡ 12) ⊎ (exit_status e ≡ 4) ⊎ (exit_status e ≡ 6)
stops_unlisted j a b Usage h lacks = absurd h
stops_unlisted j a b ReadFault h lacks = inr (inl refl)
stops_unlisted j a b WriteFault h lacks = absurd h
stops_unlisted j a b NoMemory h lacks = inr (inr refl)
stops_unlisted j a b (NoSuchFault faults) h lacks = inl refl
stops_unlisted j a b e h lacks = absurd (no_refusal j a b e h lacks)
