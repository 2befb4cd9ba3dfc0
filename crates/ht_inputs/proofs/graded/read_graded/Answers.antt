use Rattle.std.proofs.Common.{◌≡◌, ◌∙◌, List, [], ℕ, Bool, Option, false, refl, sym, ap, subst, rules}
use Rattle.std.specs.Prelude.{None, Some, if◌then◌else◌}
use Rattle.ht_inputs.proofs.Common.{AreFirstDetections, Asked, Content, Extra, HasReadTo, Tern, input_name}
use Rattle.ht_inputs.proofs.Common.{IsTestText, SaysBasis}
use Rattle.ht_ports.specs.declared.ports.InPort.TheVariants.{Tests}
use Rattle.ht_net.specs.Detect.Detection.{unknown_state}
use Rattle.ht_words.specs.declared.job.RunFiles.{RunFiles}
use Rattle.ht_inputs.specs.declared.run_error.RunError.TheVariants.{NoMemory}
use Rattle.ht_inputs.specs.Grading.{JudgesFiles}
use Rattle.ht_inputs.specs.Jobs.{turn_of, start_name}
use Rattle.ht_inputs.specs.Judging.{judged_basis}
use Rattle.ht_inputs.proofs.ReadingLaws.{nothing_read, one_more, read_so, stops_there}
use Rattle.ht_inputs.proofs.graded.read_graded.Given as given
use Rattle.ht_inputs.proofs.graded.read_graded.Goals as goal
use Rattle.ht_inputs.proofs.graded.read_graded.Goals.{In_ok-listed, In_ok-places, In_ok-start}

-- the start is that of the file which the job reads
starts : (job : Asked) (files : RunFiles) (start : Option (List ℕ)) → JudgesFiles job files start
    → start_name job ≡ start
starts job files start is = ap (λ (b : Bool). if b then input_name job Extra else None) is.may_start ∙ is.started

-- what the files say, of these vectors from a start
abbrev said : List Tern → List (List Bool) → Content
said start list = record { start = start; list = list; budget = 0; saids = []; entries = [] }

module _ (g : given.Over) (job : Asked) where
  circuit_read : (c : In_ok-listed g) → JudgesFiles job c.args.files.now c.args.start.now → (follows : Bool)
      (content : Content)
      → (c.args.start.now ≡ None → content.start ≡ unknown_state c.in_ok-circuit.circuit)
      → HasReadTo job (judged_basis follows c.in_ok-circuit.circuit c.in_ok-listed.listed.classes content) 1
      (g.D.Desk.view c.args.desk.now) (g.D.Desk.view c.read_netlist.new.desk)
  circuit_read c is follows content stated =
      let basis = judged_basis follows c.in_ok-circuit.circuit c.in_ok-listed.listed.classes content in
      c.in_ok-circuit.ensures.read job basis (is.netlist ∙ ap Some (sym c.as_str.ensures))
      (λ none. stated (sym (starts job c.args.files.now c.args.start.now is) ∙ none)) refl
      (λ text good. is.circuit basis text good c.in_ok-listed.ensures.classes)

  start_read : (c : In_ok-start g) → JudgesFiles job c.args.files.now c.args.start.now → (follows : Bool)
      (content : Content) → content.start ≡ c.in_ok-start.start.items
      → HasReadTo job (judged_basis follows c.in_ok-circuit.circuit c.in_ok-listed.listed.classes content) 2
      (g.D.Desk.view c.args.desk.now) (g.D.Desk.view c.read_stated.new.desk)
  start_read c is follows content start =
      c.in_ok-start.ensures.read job
      (judged_basis follows c.in_ok-circuit.circuit c.in_ok-listed.listed.classes content)
      (g.D.Desk.view c.args.desk.now) is.may_start is.started refl
      (circuit_read (goal.at.In_ok-start g c).In_ok-listed is follows content
      (λ none. start ∙ c.in_ok-start.ensures.unstated none)) start

  vectors_read : (c : In_ok-places g) → JudgesFiles job c.args.files.now c.args.start.now → (follows : Bool)
      (content : Content) → content.start ≡ c.in_ok-start.start.items
      → content.list ≡ c.in_ok-places.ensures.read.list
      → HasReadTo job (judged_basis follows c.in_ok-circuit.circuit c.in_ok-listed.listed.classes content) 3
      (g.D.Desk.view c.args.desk.now) (g.D.Desk.view c.read_places.new.desk)
  vectors_read c is follows content start list =
      let basis = judged_basis follows c.in_ok-circuit.circuit c.in_ok-listed.listed.classes content in
      one_more (start_read (goal.at.In_ok-places g c).In_ok-start is follows content start)
      (ap (turn_of Tests) is.may_start) (is.tests ∙ ap Some (sym c.as_str-2.ensures)) c.in_ok-places.ensures.frame
      c.in_ok-circuit.ensures.netlist
      (read_so (SaysBasis job basis Tests) (λ text good. is.vectors basis text
      (subst (λ (l : List (List Bool)). IsTestText c.in_ok-circuit.circuit text l) (sym list) good))
      c.in_ok-places.ensures.read.read)

-- ---- why it stops

pub returns-in_err-circuit-clause-stopped : goal.returns-in_err-circuit-clause-stopped
returns-in_err-circuit-clause-stopped g c = λ job is.
    let ends = c.in_err-circuit.ensures.stops job (is.netlist ∙ ap Some (sym c.as_str.ensures)) in
    search (rules, ends)

pub returns-in_err-listed-clause-stopped : goal.returns-in_err-listed-clause-stopped
returns-in_err-listed-clause-stopped g c = λ job is.
    let basis = judged_basis false c.in_ok-circuit.circuit [] (said (unknown_state c.in_ok-circuit.circuit) []) in
    let before = nothing_read job basis (g.D.Desk.view c.args.desk.now) (λ none. refl)
    (λ name. g.met.D.Desk.steady_tells c.args.desk.now name) in
    let ends = stops_there before refl (is.netlist ∙ ap Some (sym c.as_str.ensures)) c.in_ok-circuit.ensures.frame
    (λ same. is.fault c.in_ok-circuit.circuit) NoMemory tt in
    search (rules, ends)

pub returns-in_err-start-clause-stopped : goal.returns-in_err-start-clause-stopped
returns-in_err-start-clause-stopped g c = λ job is.
    let content = said (unknown_state c.in_ok-circuit.circuit) [] in
    let before = circuit_read g job (goal.at.returns-in_err-start-clause-stopped g c).In_ok-listed is false content
    (λ none. refl) in
    let ends = c.in_err-start.ensures.stopped job
    (judged_basis false c.in_ok-circuit.circuit c.in_ok-listed.listed.classes content)
    (g.D.Desk.view c.args.desk.now) is.may_start is.started refl before in
    search (rules, ends)

pub returns-in_err-places-clause-stopped : goal.returns-in_err-places-clause-stopped
returns-in_err-places-clause-stopped g c = λ job is.
    let content = said c.in_ok-start.start.items [] in
    let before = start_read g job (goal.at.returns-in_err-places-clause-stopped g c).In_ok-start is false content refl
    in
    let ends = stops_there before (ap (turn_of Tests) is.may_start) (is.tests ∙ ap Some (sym c.as_str-2.ensures))
    c.in_err-places.ensures.frame (λ same. is.fault c.in_ok-circuit.circuit) c.in_err-places.field-0.0
    (c.in_err-places.ensures.stops job
    (judged_basis false c.in_ok-circuit.circuit c.in_ok-listed.listed.classes content) is.denies refl) in
    search (rules, ends)

-- ---- what was read

pub returns-clause-graded : goal.returns-clause-graded
returns-clause-graded g c =
    let at = goal.at.returns-clause-graded g c in
    let netlist = c.in_ok-circuit.ensures.netlist in
    let tests = c.in_ok-places.ensures.read in
    let first = subst (λ (s : List Tern).
    AreFirstDetections c.in_ok-circuit.circuit c.in_ok-listed.listed.classes s tests.list
    c.in_ok-places.places.items) c.deref.ensures.value tests.first in
    record {
      list = tests.list;
      netlist = netlist;
      of_circuit = record {
        circuit = netlist.1.stands.is_circuit;
        faults = c.in_ok-listed.ensures.faults;
        classes = c.in_ok-listed.ensures.classes;
        latches = c.in_ok-start.ensures.latches;
        each = first.each;
      };
      few = tests.few;
      widths = tests.widths;
      first = first;
      reads = λ job follows content is start list. vectors_read g job at.In_ok-places is follows content start list;
    }
