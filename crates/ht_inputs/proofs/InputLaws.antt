-- Texts that a job refuses say no basis, and are refused with one status.
use Rattle.std.proofs.Common.{◌≡◌, ◌≢◌, ◌⊎◌, inl, inr, ℕ, ◌+◌, ◌<◌, ◌≤◌, Bool, true, false, List, length, refl, sym, ◌∙◌, ap, subst, arith}
use Rattle.std.specs.Prelude.{IsSome, Some, Option, None, if◌then◌else◌}
use Rattle.std.proofs.lemmas.Bool.{cases_lt}
use Rattle.ht_inputs.proofs.Common.{AreClasses, Asked, BadResponses, BadTests, Denied, Extra, InPort}
use Rattle.ht_inputs.proofs.Common.{IsGoodNetlist, IsMalformedTest, IsRefusedFor, IsTestText, JobBasis}
use Rattle.ht_inputs.proofs.Common.{RunError, SaysBasis, Tern, TooManyVectors, Trouble, before_proofs}
use Rattle.ht_inputs.proofs.Common.{exit_status, input_name, one_circuit, order_of, refused_port, unknown_state}
use Rattle.ht_ports.specs.declared.ports.InPort.TheVariants.{Netlist, Tests, Report, Proofs, Faults}
use Rattle.ht_net.specs.Circuit.Netlist as net
use Rattle.ht_faults.specs.Sites.{faults_of}
use Rattle.ht_texts.specs.StartTexts.{IsMalformedStart, IsStartText}
use Rattle.ht_texts.proofs.FaultListLaws.{fault_list_or_malformed}
use Rattle.ht_texts.proofs.ReaderLaws.{lines_few}
use Rattle.ht_texts.proofs.StartLaws.{start_or_malformed}
use Rattle.ht_texts.proofs.TestLaws.{never_both, one_list}
use Rattle.ht_faults.proofs.ClassLaws.{one_list as one_classes}
use Rattle.ht_asked.specs.Table.{Kind, compact}
use Rattle.ht_compact.specs.TestsToCompact.{HasTooManyVectors, IsMalformedEarly}
use Rattle.ht_compact.proofs.FirstVectorLaws.{few_or_many, malformed_or_many}
use Rattle.ht_dictionary.proofs.ResponseLaws.{never_both as never_responses}
use Rattle.ht_dictionary.specs.ResponseTexts.{IsMalformedResponse}
use Rattle.ht_valid.specs.FirstTrouble.{AreReadTo, IsFirstTrouble, IsFirstUnjustified}
use Rattle.ht_valid.specs.declared.trouble.Trouble.TheVariants as trouble
use Rattle.ht_valid.proofs.TroubleLaws.{justified_has_no_trouble, valid_has_no_trouble}
use Rattle.ht_words.specs.Jobs.{asked_by}
use Rattle.ht_words.specs.declared.job.Job.{Job}
use Rattle.ht_words.specs.declared.job.Job.TheVariants as job
use Rattle.ht_words.specs.declared.job.RunFiles.{RunFiles}
use Rattle.ht_inputs.proofs.ReadingLaws.{order_differs, same_or_other}
use Rattle.ht_inputs.specs.declared.run_error.RunError.TheVariants.{TooLong, Refused, BadFaults, BadStart}
use Rattle.ht_inputs.specs.Refusals.{AreDenied, AreRefusedWith, AreValidFor, HasCircuit, IsRefusedText, IsStartIn}
use Rattle.ht_inputs.specs.Refusals.{IsWrongTest, JustifyReport, trouble_port}
use Rattle.ht_inputs.specs.Inputs.{HasFault, IsStated, SaysCircuit, SaysExtra, SaysVectors}
use Rattle.ht_inputs.specs.Jobs.{judges, may_state_start, turn_of, start_name, takes_few}

-- the texts of the job's files before this place say the basis
abbrev pub SayTo : Asked → JobBasis → ℕ → (InPort → List ℕ) → Type 0
SayTo job basis place texts = (p : InPort) (name : List ℕ) → order_of job p < place
    → input_name job p ≡ Some name → SaysBasis job basis p (texts p)

-- a text that has a first trouble of its own: not the netlist, nor files that are judged
abbrev IsText : InPort → Type 0
IsText Extra = Unit {0}
IsText Tests = Unit {0}
IsText Faults = Unit {0}
IsText port = ⊥

-- ---- the netlist and the tests

pub good_netlist : (judged : Bool) (basis : JobBasis) (text : List ℕ) → SaysCircuit judged basis text
    → IsGoodNetlist text basis.circuit
good_netlist true basis text says = says.0
good_netlist false basis text says = says

vectors_said : (few : Bool) (basis : JobBasis) (text : List ℕ) → SaysVectors few basis text
    → IsTestText basis.circuit text basis.content.list
vectors_said true basis text says = says.vectors
vectors_said false basis text says = says

-- the netlist is read first
pub netlist_first : (starts : Bool) (port : InPort) → IsText port → turn_of Netlist starts < turn_of port starts
netlist_first true Extra is = omega arith
netlist_first false Extra is = omega arith
netlist_first true Tests is = omega arith
netlist_first false Tests is = omega arith
netlist_first starts Faults is = omega arith
netlist_first starts Netlist is = absurd is
netlist_first starts Report is = absurd is
netlist_first starts Proofs is = absurd is

-- `demo` reads no file
pub demo_reads_none : (size seed : ℕ) (port : InPort) → input_name (asked_by (job.Demo size seed)) port ≡ None
demo_reads_none size seed Netlist = refl
demo_reads_none size seed port = refl

some_name : (file : Option (List ℕ)) → IsSome file → (name : List ℕ) × (file ≡ Some name)
some_name (Some name) is = (name, refl)
some_name None is = cc

reads_netlist : (j : Job) (port : InPort) (name : List ℕ) → input_name (asked_by j) port ≡ Some name
    → IsSome (input_name (asked_by j) Netlist)
reads_netlist (job.Demo size seed) port name is =
    let none : None ≡ Some name = sym (demo_reads_none size seed port) ∙ is in cc
reads_netlist j port name is = refl

-- a job that reads any file reads a netlist
pub netlist_named : (j : Job) (port : InPort) (name : List ℕ) → input_name (asked_by j) port ≡ Some name
    → (n : List ℕ) × (input_name (asked_by j) Netlist ≡ Some n)
netlist_named j port name is = some_name (input_name (asked_by j) Netlist) (reads_netlist j port name is)

-- a job that reads responses reads tests
tests_named : (j : Job) (name : List ℕ) → may_state_start (asked_by j) ≡ false
    → input_name (asked_by j) Extra ≡ Some name → (n : List ℕ) × (input_name (asked_by j) Tests ≡ Some n)
tests_named (job.Diagnose netlist tests responses out) name may is = (tests, refl)
tests_named j name may is = cc

says_netlist : (j : Job) (basis : JobBasis) (texts : InPort → List ℕ) (place : ℕ) (port : InPort) (name : List ℕ)
    → input_name (asked_by j) port ≡ Some name → 0 < place → SayTo (asked_by j) basis place texts
    → IsGoodNetlist (texts Netlist) basis.circuit
says_netlist j basis texts place port name is some says =
    let (n, named) = netlist_named j port name is in
    good_netlist (judges (asked_by j).command) basis (texts Netlist) (says Netlist n some named)

-- ---- an error and its port

at_port : (b : Bool) (p q : InPort) → (if b then Some p else None) ≡ Some q → (b ≡ true) × (Some p ≡ Some q)
at_port true p q is = (refl, is)
at_port false p q is = cc

at_other : (b : Bool) (p q : InPort) → (if b then None else Some p) ≡ Some q → (b ≡ false) × (Some p ≡ Some q)
at_other true p q is = cc
at_other false p q is = (refl, is)

-- the port whose text the error refuses, whatever the job
abbrev error_port : RunError → Option InPort
error_port TooLong = Some Netlist
error_port (Refused error) = Some Netlist
error_port (BadStart line) = Some Extra
error_port (BadTests line) = Some Tests
error_port TooManyVectors = Some Tests
error_port (BadResponses line) = Some Extra
error_port (BadFaults line) = Some Faults
error_port (Denied found) = Some (trouble_port found)
error_port error = None

pub port_is : (a : Asked) (e : RunError) (port : InPort) → refused_port a e ≡ Some port → error_port e ≡ Some port
port_is a (BadStart line) port at = (at_port (may_state_start a) Extra port at).1
port_is a (BadTests line) port at = (at_other (judges a.command) Tests port at).1
port_is a TooManyVectors port at = (at_port (takes_few a.command a.numbers.runs) Tests port at).1
port_is a (BadResponses line) port at = (at_other (may_state_start a) Extra port at).1
port_is a (Denied found) port at = (at_port (judges a.command) (trouble_port found) port at).1
port_is a e port at = at

-- of the texts that have troubles of their own only the tests are judged with the others
trouble_at : (found : Trouble) (port : InPort) → IsText port → Some (trouble_port found) ≡ Some port → port ≡ Tests
trouble_at (trouble.Tests line) port is at = cc
trouble_at (trouble.Report line) port is at =
    let same : port ≡ Report = cc in absurd (subst IsText same is)
trouble_at found port is at = let same : port ≡ Proofs = cc in absurd (subst IsText same is)

-- what takes few vectors judges no proofs
few_judge_none : (kind : Kind) (runs : Option ℕ) → takes_few kind runs ≡ true → judges kind ≡ true → ⊥
few_judge_none compact runs few judged = cc
few_judge_none kind runs few judged = cc

-- ---- a text that is refused doesn't say a basis

module _ (text : List ℕ) (c : net.Netlist) (basis : JobBasis) (same : c ≡ basis.circuit) where
  no_start : (starts : Bool) → starts ≡ true → (line : ℕ) → IsMalformedStart (length c.dffs) text line
      → ¬ SaysExtra starts basis text
  no_start true may line wrong says =
      (start_or_malformed (length c.dffs) text).never_both basis.content.start line
      (subst (λ (n : net.Netlist). IsStartText (length n.dffs) text basis.content.start) (sym same) says) wrong
  no_start false may line wrong says = cc

  no_tests : (few : Bool) (line : ℕ) → IsMalformedTest c text line → ¬ SaysVectors few basis text
  no_tests few line wrong says = never_both basis.circuit text basis.content.list line
      (vectors_said few basis text says) (subst (λ (n : net.Netlist). IsMalformedTest n text line) same wrong)

  no_vectors : (few : Bool) (line : ℕ) → IsWrongTest few c text line → ¬ SaysVectors few basis text
  no_vectors true line wrong says = no_tests true line wrong.malformed says
  no_vectors false line wrong says = no_tests false line wrong says

  no_few : (few : Bool) → few ≡ true → HasTooManyVectors c text → ¬ SaysVectors few basis text
  no_few true is many says = few_or_many basis.circuit text basis.content.list says
      (subst (λ (n : net.Netlist). HasTooManyVectors n text) same many)
  no_few false is many says = cc

  no_rows : (starts : Bool) → starts ≡ false → (list : List (List Bool)) → list ≡ basis.content.list → (line : ℕ)
      → IsMalformedResponse (length c.outputs) (length list) text line → ¬ SaysExtra starts basis text
  no_rows false may list lists line wrong says =
      never_responses (length basis.circuit.outputs) (length basis.content.list) text basis.rows line says
      (subst (λ (l : List (List Bool)). IsMalformedResponse (length basis.circuit.outputs) (length l) text line) lists
      (subst (λ (n : net.Netlist). IsMalformedResponse (length n.outputs) (length list) text line) same wrong))
  no_rows true may list lists line wrong says = cc

-- a text that is refused by one basis doesn't say another of the same circuit and, if it is responses, of the same
-- vectors
never : (a : Asked) (text : List ℕ) (b basis : JobBasis) (port : InPort) (e : RunError) → IsText port
    → refused_port a e ≡ Some port → b.circuit ≡ basis.circuit → net.IsCircuit basis.circuit
    → (may_state_start a ≡ false → port ≡ Extra → b.content.list ≡ basis.content.list) → IsRefusedFor a b e text
    → ¬ SaysBasis a basis port text
never a text b basis Extra (BadStart line) is at same good lists wrong says =
    no_start text b.circuit basis same (may_state_start a)
    (at_port (may_state_start a) Extra Extra at).0 line wrong says
never a text b basis Extra (BadResponses line) is at same good lists wrong says =
    let may = (at_other (may_state_start a) Extra Extra at).0 in
    no_rows text b.circuit basis same (may_state_start a) may b.content.list (lists may refl) line wrong says
never a text b basis Tests (BadTests line) is at same good lists wrong says =
    no_vectors text b.circuit basis same (takes_few a.command a.numbers.runs) line wrong says
never a text b basis Tests TooManyVectors is at same good lists wrong says =
    no_few text b.circuit basis same (takes_few a.command a.numbers.runs)
    (at_port (takes_few a.command a.numbers.runs) Tests Tests at).0 wrong says
never a text b basis Tests (Denied (trouble.Tests line)) is at same good lists wrong says =
    no_tests text b.circuit basis same (takes_few a.command a.numbers.runs) line wrong says
never a text b basis Faults (BadFaults line) is at same good lists wrong says =
    let few = lines_few basis.circuit good in
    (fault_list_or_malformed (length (faults_of basis.circuit)) text (omega (arith, few))).never_both basis.chosen line
    says (subst (λ (n : net.Netlist). IsRefusedFor a (record b { circuit = n }) (BadFaults line) text) same wrong)
never a text b basis Netlist e is at same good lists wrong says = absurd is
never a text b basis Report e is at same good lists wrong says = absurd is
never a text b basis Proofs e is at same good lists wrong says = absurd is
never a text b basis Extra (Denied found) is at same good lists wrong says =
    let other = trouble_at found Extra tt (port_is a (Denied found) Extra at) in cc
never a text b basis Faults (Denied found) is at same good lists wrong says =
    let other = trouble_at found Faults tt (port_is a (Denied found) Faults at) in cc
never a text b basis Extra e is at same good lists wrong says = let other = port_is a e Extra at in cc
never a text b basis Tests e is at same good lists wrong says = let other = port_is a e Tests at in cc
never a text b basis Faults e is at same good lists wrong says = let other = port_is a e Faults at in cc

-- ---- refused texts among those that say a basis

-- tests are read before responses
tests_before : (starts : Bool) → starts ≡ false → (0 < turn_of Tests starts) ×
    (turn_of Tests starts < turn_of Extra starts)
tests_before true may = cc
tests_before false may = (omega arith, omega arith)

module _ (j : Job) (texts : InPort → List ℕ) {port : InPort} {status : ℕ} {name : List ℕ} (is : IsText port)
    (reads : input_name (asked_by j) port ≡ Some name) (r : IsRefusedText (asked_by j) texts port status) where
  -- if the other texts say a basis, the refused one doesn't
  refused_says : (basis : JobBasis) → IsGoodNetlist (texts Netlist) basis.circuit
      → ((p : InPort) (n : List ℕ) → 0 < order_of (asked_by j) p → order_of (asked_by j) p < order_of (asked_by j) port
      → input_name (asked_by j) p ≡ Some n → SaysBasis (asked_by j) basis p (texts p))
      → ¬ SaysBasis (asked_by j) basis port (texts port)
  refused_says basis good others says =
      let same = one_circuit (texts Netlist) r.basis.circuit basis.circuit r.circuit.stands good.stands in
      never (asked_by j) (texts port) r.basis basis port r.error is r.at same good.stands.is_circuit lists r.refused
      says
    where
      lists : may_state_start (asked_by j) ≡ false → port ≡ Extra → r.basis.content.list ≡ basis.content.list
      lists may at =
          let (n, named) = tests_named j name may (ap (input_name (asked_by j)) (sym at) ∙ reads) in
          let place = tests_before (may_state_start (asked_by j)) may in
          let before : order_of (asked_by j) Tests < order_of (asked_by j) port =
          omega (arith, place.1, ap (order_of (asked_by j)) at) in
          let same = one_circuit (texts Netlist) r.basis.circuit basis.circuit r.circuit.stands good.stands in
          let few = takes_few (asked_by j).command (asked_by j).numbers.runs in
          one_list basis.circuit (texts Tests) r.basis.content.list basis.content.list
          (subst (λ (c : net.Netlist). IsTestText c (texts Tests) r.basis.content.list) same
          (vectors_said few r.basis (texts Tests) (r.before Tests n place.0 before named)))
          (vectors_said few basis (texts Tests) (others Tests n place.0 before named))

-- ---- files that are denied

module _ (texts : InPort → List ℕ) (basis : JobBasis) where
  -- the start of the basis is that of the texts
  pub start_of : (name : Option (List ℕ)) → (name ≡ None → basis.content.start ≡ unknown_state basis.circuit)
      → ((n : List ℕ) → name ≡ Some n → IsStartText (length basis.circuit.dffs) (texts Extra) basis.content.start)
      → IsStartIn name basis.circuit texts basis.content.start
  start_of (Some n) stated says = says n refl
  start_of None stated says = stated refl

  -- and no other is
  one_start : (name : Option (List ℕ)) (start : List Tern) → IsStartIn name basis.circuit texts start
      → IsStartIn name basis.circuit texts basis.content.start → start ≡ basis.content.start
  one_start (Some n) start a b =
      (start_or_malformed (length basis.circuit.dffs) (texts Extra)).one_value start basis.content.start a b
  one_start None start a b = a ∙ sym b

  -- files that are denied for a circuit, classes and a start that the texts say are denied for those of the basis
  denied_here : (a : Asked) → SaysCircuit true basis (texts Netlist)
      → IsStartIn (start_name a) basis.circuit texts basis.content.start → AreDenied a texts
      → ¬ AreValidFor a.command a.numbers.budget texts basis.circuit basis.representatives basis.content.start
  denied_here a named stated denied valid =
      let (c, circuit, (representatives, start, classes, is, none)) = denied in
      let AreSo : net.Netlist → List ℕ → List Tern → Type 0 = AreValidFor a.command a.numbers.budget texts in
      let same : c ≡ basis.circuit = one_circuit (texts Netlist) c basis.circuit circuit.stands named.0.stands in
      let from : start ≡ basis.content.start = one_start (start_name a) start
      (subst (λ (c : net.Netlist). IsStartIn (start_name a) c texts start) same is) stated in
      let list : representatives ≡ basis.representatives =
      one_classes basis.circuit representatives basis.representatives
      (subst (λ (c : net.Netlist). AreClasses c representatives) same classes) named.1 in
      none (subst (λ (c : net.Netlist). AreSo c representatives start) (sym same)
      (subst (λ (l : List ℕ). AreSo basis.circuit l start) (sym list)
      (subst (λ (s : List Tern). AreSo basis.circuit basis.representatives s) (sym from) valid)))

  -- those of the basis are denied, if they aren't valid
  is_denied : (a : Asked) → SaysCircuit true basis (texts Netlist)
      → IsStartIn (start_name a) basis.circuit texts basis.content.start
      → ¬ AreValidFor a.command a.numbers.budget texts basis.circuit basis.representatives basis.content.start
      → AreDenied a texts
  is_denied a good from none =
      (basis.circuit, good.0, (basis.representatives, basis.content.start, good.1, from, none))

  module _ (files : RunFiles) (start : Option (List ℕ)) where
    abbrev checks : Asked
    checks = asked_by (job.Check files start)

    -- texts that say the basis of `check` are valid
    says_valid : IsStated checks basis → SayTo checks basis 5 texts → ¬ AreDenied checks texts
    says_valid stated says denied =
        let named = says Netlist files.netlist (omega arith) refl in
        let proved = says Proofs files.proofs (omega arith) refl in
        denied_here checks named (start_of start stated (λ n reads. says Extra n (omega arith) reads)) denied (
          basis.content,
          record {
            stated = refl;
            vectors = says Tests files.tests (omega arith) refl;
            reported = (says Report files.report (omega arith) refl).reported;
            proved = proved.proved;
            justified = proved.justified;
          },
        )

    -- files that have a first trouble are denied
    check_denied : (e : Trouble) → IsStated checks basis → SayTo checks basis 2 texts
        → IsFirstTrouble basis.circuit basis.representatives basis.content.start (texts Tests) (texts Report)
        (texts Proofs) e → AreDenied checks texts
    check_denied e stated says first =
        let good = says Netlist files.netlist (omega arith) refl in
        is_denied checks good (start_of start stated (λ n reads. says Extra n (omega arith) reads)) (λ valid.
        valid_has_no_trouble basis.circuit basis.representatives basis.content.start (texts Tests) (texts Report)
        (texts Proofs) good.0.stands.is_circuit valid.0 e valid.1 first)

    read_to : SayTo checks basis 4 texts → AreReadTo basis.circuit basis.representatives basis.content.start
        (texts Tests) (texts Report) (before_proofs basis.content)
    read_to before = record {
      stated = refl;
      vectors = before Tests files.tests (omega arith) refl;
      reported = (before Report files.report (omega arith) refl).reported;
      agrees = (before Report files.report (omega arith) refl).agrees;
      none = refl;
    }

    module _ (budget : ℕ) where
      abbrev reports : Asked
      reports = asked_by (job.Report files budget start)

      says_justified : IsStated reports basis → SayTo reports basis 5 texts → ¬ AreDenied reports texts
      says_justified stated says denied =
          let proved = says Proofs files.proofs (omega arith) refl in
          denied_here reports (says Netlist files.netlist (omega arith) refl)
          (start_of start stated (λ n reads. says Extra n (omega arith) reads)) denied
          (basis.content, refl, proved.0, says Tests files.tests (omega arith) refl, proved.1)

      -- tests and proofs with a first trouble justify no report
      report_denied : (e : Trouble) → IsStated reports basis → SayTo reports basis 2 texts
          → IsFirstUnjustified basis.circuit basis.representatives basis.content.start budget (texts Tests)
          (texts Proofs) e → AreDenied reports texts
      report_denied e stated says first = is_denied reports (says Netlist files.netlist (omega arith) refl)
          (start_of start stated (λ n reads. says Extra n (omega arith) reads)) (λ justify. justifies_none justify)
        where
          justifies_none : ¬ JustifyReport basis.circuit basis.representatives basis.content.start budget (texts Tests)
              (texts Proofs)
          justifies_none (content, from, budget_is, vectors, good) =
              justified_has_no_trouble basis.circuit basis.representatives (texts Tests)
              (texts Proofs) content e vectors
              good.proved good.justified
              (subst (λ (b : ℕ). IsFirstUnjustified basis.circuit basis.representatives content.start b (texts Tests)
              (texts Proofs) e) (sym budget_is)
              (subst (λ (s : List Tern). IsFirstUnjustified basis.circuit basis.representatives s budget (texts Tests)
              (texts Proofs) e) (sym from) first))

-- ---- such texts say no basis

-- texts of which a job refuses one at a port don't all say a basis up to that port
pub say_none : (j : Job) (texts : InPort → List ℕ) (port : InPort) (name : List ℕ) (status : ℕ) (basis : JobBasis)
    → IsStated (asked_by j) basis → input_name (asked_by j) port ≡ Some name
    → AreRefusedWith (asked_by j) texts port status → ¬ SayTo (asked_by j) basis (order_of (asked_by j) port + 1) texts
say_none j texts Netlist name status basis stated reads r says =
    r.1 basis.circuit (says_netlist j basis texts 1 Netlist name reads (omega arith) says)
say_none j texts Report name status basis stated reads r says = r
say_none (job.Check files start) texts Proofs name status basis stated reads r says =
    says_valid texts basis files start stated says r.1
say_none (job.Report files budget start) texts Proofs name status basis stated reads r says =
    says_justified texts basis files start budget stated says r.1
say_none j texts Proofs name status basis stated reads r says =
    let (c, circuit, (representatives, start, classes, is, none)) = r.1 in none tt
say_none j texts port name status basis stated reads r says =
    refused_says j texts tt reads r basis (says_netlist j basis texts _ port name reads (omega arith) says)
    (λ p n some less named. says p n (omega (arith, less)) named) (says port name (omega arith) reads)

-- ---- a text that a job refuses for an error is one of these

-- it refuses one of them, with this status
abbrev pub IsRefusedBy : Asked → (InPort → List ℕ) → ℕ → Type 0
IsRefusedBy a texts status = (port : InPort) × (name : List ℕ) × (input_name a port ≡ Some name)
    × AreRefusedWith a texts port status

-- What a job's refusal of a text tells of the texts.
pub record Refuses (a : Asked) (texts : InPort → List ℕ) (basis : JobBasis) (e : RunError) (port : InPort)
    (name : List ℕ) : Type 0 where
  pub at : refused_port a e ≡ Some port
  pub reads : input_name a port ≡ Some name
  pub stated : IsStated a basis
  pub fault : order_of a Tests ≤ order_of a port → HasFault a basis.circuit
  pub refused : IsRefusedFor a basis e (texts port)
  pub before : SayTo a basis (order_of a port) texts

-- a text with a first trouble of its own
of_text : (j : Job) (texts : InPort → List ℕ) (basis : JobBasis) (e : RunError) (port : InPort) (name : List ℕ)
    → IsText port → Refuses (asked_by j) texts basis e port name → IsRefusedBy (asked_by j) texts (exit_status e)
of_text j texts basis e port name is h = (port, name, h.reads, row port is r)
  where
    r : IsRefusedText (asked_by j) texts port (exit_status e)
    r = record {
      error = e;
      status_is = refl;
      at = h.at;
      basis = basis;
      circuit = says_netlist j basis texts _ port name h.reads
          (netlist_first (may_state_start (asked_by j)) port is) h.before;
      stated = h.stated;
      before = λ p n some less named. h.before p n less named;
      fault = h.fault;
      refused = h.refused;
    }

    row : (p : InPort) → IsText p → IsRefusedText (asked_by j) texts p (exit_status e)
        → AreRefusedWith (asked_by j) texts p (exit_status e)
    row Extra is r = r
    row Tests is r = r
    row Faults is r = r
    row Netlist is r = absurd is
    row Report is r = absurd is
    row Proofs is r = absurd is

-- if a text is refused for an error, the job refuses one of its texts with the status of that error
pub refused_with : (j : Job) (texts : InPort → List ℕ) (basis : JobBasis) (e : RunError) (port : InPort)
    (name : List ℕ) → Refuses (asked_by j) texts basis e port name → IsRefusedBy (asked_by j) texts (exit_status e)
refused_with j texts basis TooLong Netlist name h =
    (Netlist, name, h.reads, (refl, λ c good. omega (arith, h.refused, good.short)))
refused_with j texts basis (Refused error) Netlist name h =
    (Netlist, name, h.reads, (refl, λ c good. h.refused.none c good.stands))
refused_with (job.Check files start) texts basis (Denied (trouble.Report line)) Report name h = (
  Proofs,
  files.proofs,
  refl,
  (
    refl,
    check_denied texts basis files start (trouble.Report line) h.stated
        (λ p n less named. h.before p n (omega (arith, less)) named)
        (basis.content.list, h.before Tests files.tests (omega arith) refl, h.refused),
  ),
)
refused_with (job.Check files start) texts basis (Denied (trouble.Proofs line)) Proofs name h = (
  Proofs,
  files.proofs,
  refl,
  (
    refl,
    check_denied texts basis files start (trouble.Proofs line) h.stated
        (λ p n less named. h.before p n (omega (arith, less)) named)
        (before_proofs basis.content, read_to texts basis files start h.before, h.refused),
  ),
)
refused_with (job.Check files start) texts basis (Denied (trouble.Fault number)) Proofs name h = (
  Proofs,
  files.proofs,
  refl,
  (
    refl,
    check_denied texts basis files start (trouble.Fault number) h.stated
        (λ p n less named. h.before p n (omega (arith, less)) named)
        (before_proofs basis.content, read_to texts basis files start h.before, h.refused),
  ),
)
refused_with (job.Report files budget start) texts basis (Denied (trouble.Proofs line)) Proofs name h = (
  Proofs,
  files.proofs,
  refl,
  (
    refl,
    report_denied texts basis files start budget (trouble.Proofs line) h.stated
        (λ p n less named. h.before p n (omega (arith, less)) named)
        (basis.content.list, h.before Tests files.tests (omega arith) refl, h.refused),
  ),
)
refused_with (job.Report files budget start) texts basis (Denied (trouble.Fault number)) Proofs name h = (
  Proofs,
  files.proofs,
  refl,
  (
    refl,
    report_denied texts basis files start budget (trouble.Fault number) h.stated
        (λ p n less named. h.before p n (omega (arith, less)) named)
        (basis.content.list, h.before Tests files.tests (omega arith) refl, h.refused),
  ),
)
refused_with j texts basis e Extra name h = of_text j texts basis e Extra name tt h
refused_with j texts basis e Tests name h = of_text j texts basis e Tests name tt h
refused_with j texts basis e Faults name h = of_text j texts basis e Faults name tt h
refused_with (job.Report files budget start) texts basis (Denied (trouble.Report line)) Report name h =
    let none : None ≡ Some name = h.reads in cc
refused_with j texts basis (Denied (trouble.Tests line)) Netlist name h =
    let other = port_is (asked_by j) (Denied (trouble.Tests line)) Netlist h.at in cc
refused_with j texts basis e Netlist name h = let other = port_is (asked_by j) e Netlist h.at in cc
refused_with j texts basis e Report name h =
    let at = h.at in let other = port_is (asked_by j) e Report h.at in cc
refused_with j texts basis e Proofs name h =
    let at = h.at in let other = port_is (asked_by j) e Proofs h.at in cc

-- ---- one status

-- few tests aren't both malformed early and too many
early_or_many : (few : Bool) (c d : net.Netlist) (text : List ℕ) (line : ℕ) → few ≡ true → c ≡ d
    → IsWrongTest few c text line → ¬ HasTooManyVectors d text
early_or_many true c d text line is same wrong many = malformed_or_many d text line
    (subst (λ (n : net.Netlist). IsMalformedEarly n text line) same wrong) many
early_or_many false c d text line is same wrong many = cc

-- two errors that refuse the text of one port have one status
same_status : (a : Asked) (text : List ℕ) (port : InPort) (b d : JobBasis) (e f : RunError)
    → refused_port a e ≡ Some port → refused_port a f ≡ Some port → b.circuit ≡ d.circuit → IsText port
    → IsRefusedFor a b e text → IsRefusedFor a d f text → exit_status e ≡ exit_status f
same_status a text port b d (BadTests line) TooManyVectors x y same is p q = absurd (early_or_many
    (takes_few a.command a.numbers.runs) b.circuit d.circuit text line
    (at_port (takes_few a.command a.numbers.runs) Tests port y).0 same p q)
same_status a text port b d TooManyVectors (BadTests line) x y same is p q = absurd (early_or_many
    (takes_few a.command a.numbers.runs) d.circuit b.circuit text line
    (at_port (takes_few a.command a.numbers.runs) Tests port x).0 (sym same) q p)
same_status a text port b d (Denied t) (Denied u) x y same is p q = refl
same_status a text port b d (Denied t) TooManyVectors x y same is p q = absurd (few_judge_none a.command a.numbers.runs
    (at_port (takes_few a.command a.numbers.runs) Tests port y).0
    (at_port (judges a.command) (trouble_port t) port x).0)
same_status a text port b d TooManyVectors (Denied t) x y same is p q = absurd (few_judge_none a.command a.numbers.runs
    (at_port (takes_few a.command a.numbers.runs) Tests port x).0
    (at_port (judges a.command) (trouble_port t) port y).0)
same_status a text port b d (Denied t) (BadTests line) x y same is p q =
    let yes = (at_port (judges a.command) (trouble_port t) port x).0 in
    let no = (at_other (judges a.command) Tests port y).0 in cc
same_status a text port b d (BadTests line) (Denied t) x y same is p q =
    let no = (at_other (judges a.command) Tests port x).0 in
    let yes = (at_port (judges a.command) (trouble_port t) port y).0 in cc
same_status a text port b d (BadStart line) (BadResponses number) x y same is p q =
    let yes = (at_port (may_state_start a) Extra port x).0 in
    let no = (at_other (may_state_start a) Extra port y).0 in cc
same_status a text port b d (BadResponses number) (BadStart line) x y same is p q =
    let no = (at_other (may_state_start a) Extra port x).0 in
    let yes = (at_port (may_state_start a) Extra port y).0 in cc
same_status a text Netlist b d e f x y same is p q = absurd is
same_status a text Report b d e f x y same is p q = absurd is
same_status a text Proofs b d e f x y same is p q = absurd is
same_status a text port b d (Denied t) f x y same is p q =
    let first = trouble_at t port is (port_is a (Denied t) port x) in let second = port_is a f port y in cc
same_status a text port b d e (Denied t) x y same is p q =
    let first = port_is a e port x in let second = trouble_at t port is (port_is a (Denied t) port y) in cc
same_status a text port b d e f x y same is p q =
    let first = port_is a e port x in let second = port_is a f port y in cc

-- one port, or two with two places
places_differ : (j : Job) (p q : InPort) → (p ≡ q) ⊎ (order_of (asked_by j) p ≢ order_of (asked_by j) q)
places_differ j p q = elim (same_or_other p q) [
  | inl same ↦ inl same
  | inr other ↦ inr (order_differs (asked_by j) p q other)
]

less_of : (x y : ℕ) → x ≢ y → y ≤ x → y < x
less_of x y other late = elim (cases_lt y x) [
  | inl less ↦ less
  | inr not ↦ absurd (other (omega (arith, late, not)))
]

module _ (j : Job) (texts : InPort → List ℕ) where
  -- where another file than the netlist is refused, the netlist is good
  netlist_or_good : (port : InPort) (status : ℕ) → AreRefusedWith (asked_by j) texts port status
      → (3 ≡ status) ⊎ HasCircuit texts (λ c. Unit {0})
  netlist_or_good Netlist status r = inl (sym r.0)
  netlist_or_good Report status r = absurd r
  netlist_or_good Proofs status r = inr (r.1.0, r.1.1, tt)
  netlist_or_good port status r = inr (r.basis.circuit, r.circuit, tt)

  of_netlist : (port : InPort) (s t : ℕ) → AreRefusedWith (asked_by j) texts Netlist s
      → AreRefusedWith (asked_by j) texts port t → s ≡ t
  of_netlist port s t x y = elim (netlist_or_good port t y) [
    | inl three ↦ x.0 ∙ three
    | inr good ↦ absurd (x.1 good.0 good.1)
  ]

  -- a text that is refused at one port was said before one is refused at a later port
  earlier : (p q : InPort) (m : List ℕ) (s t : ℕ) → IsText p → input_name (asked_by j) p ≡ Some m
      → IsRefusedText (asked_by j) texts p s → IsRefusedText (asked_by j) texts q t
      → order_of (asked_by j) p < order_of (asked_by j) q → ⊥
  earlier p q m s t is reads x y less = refused_says j texts is reads x y.basis y.circuit
      (λ r n some before named. y.before r n some (omega (arith, before, less)) named)
      (y.before p m (netlist_first (may_state_start (asked_by j)) p is) less reads)

  -- at one port there is one status
  at_one_port : (p : InPort) (s t : ℕ) → IsText p → IsRefusedText (asked_by j) texts p s
      → IsRefusedText (asked_by j) texts p t → s ≡ t
  at_one_port p s t is x y = x.status_is
      ∙ same_status (asked_by j) (texts p) p x.basis y.basis x.error y.error x.at y.at
      (one_circuit (texts Netlist) x.basis.circuit y.basis.circuit x.circuit.stands y.circuit.stands) is x.refused
      y.refused ∙ sym y.status_is

  -- where the files of a job are denied, no text of it is refused but with status 1
  denied_text : (a : Asked) (q : InPort) (n : List ℕ) (s t : ℕ) → IsText q → judges a.command ≡ true
      → may_state_start a ≡ true → input_name a Faults ≡ None → (s ≡ 1) × AreDenied a texts
      → input_name a q ≡ Some n → IsRefusedText a texts q t → s ≡ t
  denied_text a q n s t is judged may unlisted x reads y = x.0 ∙ by y.error y.at y.refused ∙ sym y.status_is
    where
      stated : (name : Option (List ℕ)) (m : List ℕ) (c d : net.Netlist) (start : List Tern) (line : ℕ) → c ≡ d
          → name ≡ Some m → IsStartIn name c texts start → ¬ IsMalformedStart (length d.dffs) (texts Extra) line
      stated None m c d start line same named begins wrong = cc
      stated (Some k) m c d start line same named begins wrong =
          (start_or_malformed (length c.dffs) (texts Extra)).never_both start line begins
          (subst (λ (g : net.Netlist). IsMalformedStart (length g.dffs) (texts Extra) line) (sym same) wrong)

      no_start_wrong : (line : ℕ) → input_name a Extra ≡ Some n
          → ¬ IsMalformedStart (length y.basis.circuit.dffs) (texts Extra) line
      no_start_wrong line named =
          let (c, circuit, (representatives, start, classes, begins, none)) = x.1 in
          stated (start_name a) n c y.basis.circuit start line
          (one_circuit (texts Netlist) c y.basis.circuit circuit.stands y.circuit.stands)
          (ap (λ (b : Bool). if b then input_name a Extra else None) may ∙ named) begins

      by : (e : RunError) → refused_port a e ≡ Some q → IsRefusedFor a y.basis e (texts q) → 1 ≡ exit_status e
      by (Denied found) at refused = refl
      by (BadStart line) at refused =
          let at_extra : Some Extra ≡ Some q = port_is a (BadStart line) q at in
          let same : q ≡ Extra = cc in
          absurd (no_start_wrong line (ap (input_name a) (sym same) ∙ reads)
          (subst (λ (p : InPort). IsRefusedFor a y.basis (BadStart line) (texts p)) same refused))
      by (BadTests line) at refused = let none = (at_other (judges a.command) Tests q at).0 in cc
      by TooManyVectors at refused =
          absurd (few_judge_none a.command a.numbers.runs
          (at_port (takes_few a.command a.numbers.runs) Tests q at).0 judged)
      by (BadResponses line) at refused = let none = (at_other (may_state_start a) Extra q at).0 in cc
      by (BadFaults line) at refused =
          let none : input_name a q ≡ None = (let same : q ≡ Faults = cc in ap (input_name a) same ∙ unlisted) in cc
      by e at refused = absurd (not_netlist q is (port_is a e q at))
        where
          not_netlist : (p : InPort) → IsText p → error_port e ≡ Some p → ⊥
          not_netlist Extra is other = cc
          not_netlist Tests is other = cc
          not_netlist Faults is other = cc
          not_netlist p is other = is

  of_denied : (k : Job) (q : InPort) (n : List ℕ) (s t : ℕ) → IsText q → input_name (asked_by k) q ≡ Some n
      → AreRefusedWith (asked_by k) texts Proofs s → IsRefusedText (asked_by k) texts q t → s ≡ t
  of_denied (job.Check files start) q n s t is reads x y =
      denied_text (asked_by (job.Check files start)) q n s t is refl refl refl x reads y
  of_denied (job.Report files budget start) q n s t is reads x y =
      denied_text (asked_by (job.Report files budget start)) q n s t is refl refl refl x reads y
  of_denied k q n s t is reads x y =
      let (c, circuit, (representatives, start, classes, begins, none)) = x.1 in absurd (none tt)

  text_or_text : (p q : InPort) (m n : List ℕ) (s t : ℕ) → IsText p → IsText q → input_name (asked_by j) p ≡ Some m
      → input_name (asked_by j) q ≡ Some n → IsRefusedText (asked_by j) texts p s
      → IsRefusedText (asked_by j) texts q t → (p ≡ q) ⊎ (order_of (asked_by j) p ≢ order_of (asked_by j) q) → s ≡ t
  text_or_text p q m n s t is also a b x y (inl same) =
      at_one_port p s t is x (subst (λ (r : InPort). IsRefusedText (asked_by j) texts r t) (sym same) y)
  text_or_text p q m n s t is also a b x y (inr other) =
      elim (cases_lt (order_of (asked_by j) p) (order_of (asked_by j) q)) [
        | inl less ↦ absurd (earlier p q m s t is a x y less)
        | inr late ↦ absurd (earlier q p n t s also b y x (less_of (order_of (asked_by j) p) (order_of (asked_by j) q)
            other late))
      ]

  -- whichever texts a job refuses, it refuses them with one status
  pub one_status : (p q : InPort) (m n : List ℕ) (s t : ℕ) → input_name (asked_by j) p ≡ Some m
      → input_name (asked_by j) q ≡ Some n → AreRefusedWith (asked_by j) texts p s
      → AreRefusedWith (asked_by j) texts q t → s ≡ t
  one_status Netlist q m n s t a b x y = of_netlist q s t x y
  one_status p Netlist m n s t a b x y = sym (of_netlist p t s y x)
  one_status Report q m n s t a b x y = absurd x
  one_status p Report m n s t a b x y = absurd y
  one_status Proofs Proofs m n s t a b x y = x.0 ∙ sym y.0
  one_status Proofs q m n s t a b x y = of_denied j q n s t tt b x y
  one_status p Proofs m n s t a b x y = sym (of_denied j p m t s tt a y x)
  one_status p q m n s t a b x y = text_or_text p q m n s t tt tt a b x y (places_differ j p q)
