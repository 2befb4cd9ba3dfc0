use Rattle.std.proofs.Common.{◌≡◌, ◌≤◌, List, [], ℕ, refl, sym, ap, rules, arith}
use Rattle.std.specs.Prelude.{None, Some}
use Rattle.ht_app.proofs.Common.{InPort, input_name, order_of}
use Rattle.ht_ports.specs.declared.ports.InPort.TheVariants.{Netlist}
use Rattle.ht_inputs.proofs.ReadingLaws.{basis_of}
use Rattle.ht_net.proofs.MoreToldLaws.{unknown_is_start}
use Rattle.ht_app.proofs.PreparedLaws.{no_vectors, prepares_file}
use Rattle.ht_app.proofs.uninit.uninit.Goals as goal
use Rattle.ht_words.specs.Jobs.{asked_by}
use Rattle.ht_words.specs.declared.job.Job.TheVariants as job_of

no_more : (netlist out : List ℕ) (budget : ℕ) (p : InPort) → 1 ≤ order_of
    (asked_by (job_of.Uninit netlist out budget)) p
    → input_name (asked_by (job_of.Uninit netlist out budget)) p ≡ None
no_more netlist out budget Netlist late = absurd (omega (arith, late))
no_more netlist out budget p late = refl

pub returns-in_err-circuit : goal.returns-in_err-circuit
returns-in_err-circuit g c = λ out.
    let ends = c.in_err-circuit.ensures.stops (asked_by (job_of.Uninit c.args.netlist.now out c.args.budget))
    (ap Some (sym c.as_str.ensures)) in
    record { made = search rules; stopped = search (rules, ends) }

pub returns : goal.returns
returns g c = λ out. prepares_file (c.in_ok-circuit.ensures.read
    (asked_by (job_of.Uninit c.args.netlist.now out c.args.budget)) (basis_of c.in_ok-circuit.circuit [] [])
    (ap Some (sym c.as_str.ensures)) (λ none. refl) refl (λ text good. good)) _ _ _ _ _
    (no_more c.args.netlist.now out c.args.budget) c.in_ok-circuit.ensures.netlist
    (unknown_is_start c.in_ok-circuit.circuit) (no_vectors c.in_ok-circuit.circuit) (λ acts is. (out, refl, is))
    c.or_no_memory.ensures c.uninit_texts-made.ensures
