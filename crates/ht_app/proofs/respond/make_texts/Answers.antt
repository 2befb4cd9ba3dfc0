use Rattle.std.proofs.Common.{◌≡◌, ◌≤◌, Bool, List, [], ℕ, refl, rules, arith}
use Rattle.std.proofs.lemmas.Result.{IfOk-weaker}
use Rattle.std.specs.Prelude.{None, Option}
use Rattle.ht_app.proofs.Common.{Extra, InPort, SaysBasis, input_name, order_of}
use Rattle.ht_ports.specs.declared.ports.InPort.TheVariants.{Netlist, Tests}
use Rattle.ht_inputs.proofs.FaultLaws.{fault_ends}
use Rattle.ht_app.proofs.UnlistedLaws.{machine_listed}
use Rattle.ht_inputs.proofs.ReadingLaws.{basis_from, basis_of, one_more, read_so, stops_there, tests_stop}
use Rattle.ht_app.proofs.PreparedLaws.{prepares}
use Rattle.ht_app.proofs.respond.make_texts.Goals as goal
use Rattle.ht_words.specs.Jobs.{asked_by}
use Rattle.ht_words.specs.declared.job.Job.TheVariants as job_of

no_more : (netlist tests out : List ℕ) (number : Option ℕ) (start : Option (List ℕ)) (lines : Bool) (p : InPort)
    → 3 ≤ order_of (asked_by (job_of.Respond netlist tests out number start lines)) p
    → input_name (asked_by (job_of.Respond netlist tests out number start lines)) p ≡ None
no_more netlist tests out number start lines Netlist late = absurd (omega (arith, late))
no_more netlist tests out number start lines Extra late = absurd (omega (arith, late))
no_more netlist tests out number start lines Tests late = absurd (omega (arith, late))
no_more netlist tests out number start lines p late = refl

pub returns-in_err-circuit : goal.returns-in_err-circuit
returns-in_err-circuit g c = λ out.
    let ends = c.in_err-circuit.ensures.stops
    (asked_by (job_of.Respond c.args.netlist.now c.args.tests.now out c.args.number c.args.start.now
    c.args.lines)) refl in
    record { made = search rules; stopped = search (rules, ends) }

pub returns-in_err-start : goal.returns-in_err-start
returns-in_err-start g c = λ out.
    let job = asked_by (job_of.Respond c.args.netlist.now c.args.tests.now out c.args.number c.args.start.now
    c.args.lines) in
    let basis = basis_of c.in_ok-circuit.circuit [] [] in
    let before = c.in_ok-circuit.ensures.read job basis refl (λ none. refl) refl (λ text good. good) in
    let ends = c.in_err-start.ensures.stopped job basis (g.D.Desk.view c.args.desk.now) refl refl refl before in
    record { made = search rules; stopped = search (rules, ends) }

pub returns-in_err-fault : goal.returns-in_err-fault
returns-in_err-fault g c = λ out.
    let job = asked_by (job_of.Respond c.args.netlist.now c.args.tests.now out c.args.number c.args.start.now
    c.args.lines) in
    let basis = basis_from c.in_ok-circuit.circuit c.in_ok-start.start.items [] [] in
    let before = c.in_ok-start.ensures.read job basis (g.D.Desk.view c.args.desk.now) refl refl refl
    (c.in_ok-circuit.ensures.read job basis refl c.in_ok-start.ensures.unstated refl (λ text good. good)) refl in
    let ends = fault_ends refl before c.in_err-fault.field-0.0 c.in_err-fault.ensures.stops in
    record { made = search rules; stopped = search (rules, ends) }

pub returns-in_err-list : goal.returns-in_err-list
returns-in_err-list g c = λ out.
    let job = asked_by (job_of.Respond c.args.netlist.now c.args.tests.now out c.args.number c.args.start.now
    c.args.lines) in
    let basis = basis_from c.in_ok-circuit.circuit c.in_ok-start.start.items [] [] in
    let before = c.in_ok-start.ensures.read job basis (g.D.Desk.view c.args.desk.now) refl refl refl
    (c.in_ok-circuit.ensures.read job basis refl c.in_ok-start.ensures.unstated refl (λ text good. good)) refl in
    let listed = machine_listed c.in_ok-circuit.circuit c.args.number c.in_ok-fault.fault c.in_ok-fault.ensures.machine
    in
    let ends = stops_there before refl refl c.in_err-list.ensures.frame (λ is. listed) c.in_err-list.field-0.0
    (tests_stop job basis _ _ _ _ (λ line. refl) (λ line text early wrong. wrong) _ c.in_err-list.ensures.stops) in
    record { made = search rules; stopped = search (rules, ends) }

pub returns : goal.returns
returns g c = λ out.
    let job = asked_by (job_of.Respond c.args.netlist.now c.args.tests.now out c.args.number c.args.start.now
    c.args.lines) in
    let basis = basis_from c.in_ok-circuit.circuit c.in_ok-start.start.items c.in_ok-list.list.list [] in
    let before = c.in_ok-start.ensures.read job basis (g.D.Desk.view c.args.desk.now) refl refl refl
    (c.in_ok-circuit.ensures.read job basis refl c.in_ok-start.ensures.unstated refl (λ text good. good)) refl in
    prepares (one_more before refl refl c.in_ok-list.ensures.frame c.in_ok-circuit.ensures.netlist
    (read_so (SaysBasis job basis Tests) (λ text are. are.all (omega (arith, c.in_ok-list.ensures.few)))
    c.in_ok-list.ensures.read)) _ _ _
    (no_more c.args.netlist.now c.args.tests.now out c.args.number c.args.start.now
    c.args.lines) c.in_ok-circuit.ensures.netlist
    c.in_ok-start.ensures.latches c.in_ok-list.ensures.widths c.or_no_memory.ensures
    (IfOk-weaker c.machine_texts-made.result _ _ (λ texts are. (
      out,
      refl,
      record {
        fault = c.in_ok-fault.fault;
        body = _;
        said = _;
        last = _;
        machine = c.in_ok-fault.ensures.machine;
        so = are;
        acts_are = refl;
      },
    )) (rw c.deref.ensures.value at c.machine_texts-made.ensures))
