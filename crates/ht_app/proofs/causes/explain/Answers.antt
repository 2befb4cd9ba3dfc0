use Rattle.std.proofs.Common.{◌≡◌, ◌≤◌, List, [], ℕ, Bool, refl, sym, ap, rules, arith}
use Rattle.std.specs.Prelude.{None, Option, Some}
use Rattle.ht_app.proofs.Common.{Extra, HasReadTo, InPort, SaysBasis, Tern, input_name, order_of}
use Rattle.ht_ports.specs.declared.ports.InPort.TheVariants.{Netlist, Tests}
use Rattle.ht_inputs.proofs.ReadingLaws.{basis_of, one_more, read_so, stops_there, tests_stop, basis_from}
use Rattle.ht_app.proofs.PreparedLaws.{prepares_file}
use Rattle.ht_net.specs.Detect.Detection.{unknown_state}
use Rattle.ht_app.proofs.causes.explain.Given as given
use Rattle.ht_app.proofs.causes.explain.Goals as goal
use Rattle.ht_app.proofs.causes.explain.Goals.{In_ok-circuit, In_ok-list, In_ok-start}
use Rattle.ht_words.specs.Jobs.{asked_by}
use Rattle.ht_words.specs.declared.job.Job.TheVariants as job_of

no_more : (netlist tests report : List ℕ) (start : Option (List ℕ)) (p : InPort)
    → 3 ≤ order_of (asked_by (job_of.Causes netlist tests report start)) p → input_name
    (asked_by (job_of.Causes netlist tests report start)) p ≡ None
no_more netlist tests report start Netlist late = absurd (omega (arith, late))
no_more netlist tests report start Extra late = absurd (omega (arith, late))
no_more netlist tests report start Tests late = absurd (omega (arith, late))
no_more netlist tests report start p late = refl

reads : (g : given.Over) (c : In_ok-circuit g) (report : List ℕ) (start : List Tern) (list : List (List Bool))
    → (c.args.start.now ≡ None → start ≡ unknown_state c.in_ok-circuit.circuit)
    → HasReadTo (asked_by (job_of.Causes c.args.netlist.now c.args.tests.now report c.args.start.now))
    (basis_from c.in_ok-circuit.circuit start list []) 1
    (g.D.Desk.view c.args.desk.now) (g.D.Desk.view c.read_netlist.new.desk)
reads g c report start list stated = c.in_ok-circuit.ensures.read
    (asked_by (job_of.Causes c.args.netlist.now c.args.tests.now report c.args.start.now))
    (basis_from c.in_ok-circuit.circuit start list []) (ap Some (sym c.as_str.ensures)) stated refl (λ text good. good)

start_reads : (g : given.Over) (c : In_ok-start g) (report : List ℕ) (list : List (List Bool))
    → HasReadTo (asked_by (job_of.Causes c.args.netlist.now c.args.tests.now report c.args.start.now))
    (basis_from c.in_ok-circuit.circuit c.in_ok-start.start.items list []) 2 (g.D.Desk.view c.args.desk.now)
    (g.D.Desk.view c.read_stated.new.desk)
start_reads g c report list =
    let before = reads g (goal.at.In_ok-start g c).In_ok-circuit report c.in_ok-start.start.items list
    c.in_ok-start.ensures.unstated in
    c.in_ok-start.ensures.read (asked_by (job_of.Causes c.args.netlist.now c.args.tests.now report c.args.start.now))
    (basis_from c.in_ok-circuit.circuit c.in_ok-start.start.items list []) (g.D.Desk.view c.args.desk.now) refl refl
    refl before refl

all_reads : (g : given.Over) (c : In_ok-list g) (report : List ℕ)
    → HasReadTo (asked_by (job_of.Causes c.args.netlist.now c.args.tests.now report c.args.start.now))
    (basis_from c.in_ok-circuit.circuit c.in_ok-start.start.items c.in_ok-list.list.list []) 3
    (g.D.Desk.view c.args.desk.now) (g.D.Desk.view c.read_tests.new.desk)
all_reads g c report =
    let before = start_reads g (goal.at.In_ok-list g c).In_ok-start report c.in_ok-list.list.list in
    one_more before refl (ap Some (sym c.as_str-2.ensures)) c.in_ok-list.ensures.frame c.in_ok-circuit.ensures.netlist
    (read_so (SaysBasis (asked_by (job_of.Causes c.args.netlist.now c.args.tests.now report c.args.start.now))
    (basis_from c.in_ok-circuit.circuit c.in_ok-start.start.items c.in_ok-list.list.list []) Tests)
    (λ text are. are.all (omega (arith, c.in_ok-list.ensures.few))) c.in_ok-list.ensures.read)

pub returns-in_err-circuit : goal.returns-in_err-circuit
returns-in_err-circuit g c = λ report.
    let ends = c.in_err-circuit.ensures.stops (asked_by
    (job_of.Causes c.args.netlist.now c.args.tests.now report c.args.start.now))
    (ap Some (sym c.as_str.ensures)) in
    record { made = search rules; stopped = search (rules, ends) }

pub returns-in_err-start : goal.returns-in_err-start
returns-in_err-start g c = λ report.
    let before = reads g (goal.at.returns-in_err-start g c).In_ok-circuit report
    (unknown_state c.in_ok-circuit.circuit) [] (λ none. refl) in
    let ends = c.in_err-start.ensures.stopped (asked_by
    (job_of.Causes c.args.netlist.now c.args.tests.now report c.args.start.now))
    (basis_of c.in_ok-circuit.circuit [] []) (g.D.Desk.view c.args.desk.now) refl refl refl before in
    record { made = search rules; stopped = search (rules, ends) }

pub returns-in_err-list : goal.returns-in_err-list
returns-in_err-list g c = λ report.
    let before = start_reads g (goal.at.returns-in_err-list g c).In_ok-start report [] in
    let ends = stops_there before refl (ap Some (sym c.as_str-2.ensures)) c.in_err-list.ensures.frame
    (λ is. tt) c.in_err-list.field-0.0
    (tests_stop (asked_by (job_of.Causes c.args.netlist.now c.args.tests.now report c.args.start.now))
    (basis_from c.in_ok-circuit.circuit c.in_ok-start.start.items [] []) _ _ _ _
    (λ line. refl) (λ line text early wrong. wrong) _ c.in_err-list.ensures.stops) in
    record { made = search rules; stopped = search (rules, ends) }

pub returns : goal.returns
returns g c = λ report. prepares_file (all_reads g (goal.at.returns g c).In_ok-list report) _ _ _ _ _
    (no_more c.args.netlist.now c.args.tests.now report c.args.start.now) c.in_ok-circuit.ensures.netlist
    c.in_ok-start.ensures.latches c.in_ok-list.ensures.widths (λ acts is. (report, refl, is)) c.or_no_memory.ensures
    (rw c.deref.ensures.value at c.report_texts.ensures)
