use Rattle.std.proofs.Common.{◌≡◌, ◌≤◌, ◌∷◌, [], List, ℕ, refl, ap, rules, arith}
use Rattle.std.specs.Prelude.{None}
use Rattle.std.proofs.lemmas.Result.{IfOk-weaker}
use Rattle.ht_app.proofs.Common.{InPort, input_name, make, order_of, put}
use Rattle.ht_ports.specs.declared.ports.InPort.TheVariants.{Netlist}
use Rattle.ht_ports.specs.declared.ports.OutPort.TheVariants.{Report}
use Rattle.ht_inputs.proofs.ReadingLaws.{basis_of}
use Rattle.ht_net.proofs.MoreToldLaws.{unknown_is_start}
use Rattle.ht_app.proofs.PreparedLaws.{no_vectors, prepares}
use Rattle.ht_app.proofs.norm.normal_text.Goals as goal
use Rattle.ht_words.specs.Jobs.{asked_by}
use Rattle.ht_words.specs.declared.job.Job.TheVariants as job_of

no_more : (netlist out : List ℕ) (p : InPort) → 1 ≤ order_of (asked_by (job_of.Norm netlist out)) p → input_name
    (asked_by (job_of.Norm netlist out)) p ≡ None
no_more netlist out Netlist late = absurd (omega (arith, late))
no_more netlist out p late = refl

pub returns-in_err-circuit : goal.returns-in_err-circuit
returns-in_err-circuit g c = λ out.
    let ends = c.in_err-circuit.ensures.stops (asked_by
    (job_of.Norm c.args.netlist.now out)) refl in record { made = search rules; stopped = search (rules, ends) }

pub returns : goal.returns
returns g c = λ out. prepares (c.in_ok-circuit.ensures.read
    (asked_by (job_of.Norm c.args.netlist.now out)) (basis_of c.in_ok-circuit.circuit [] []) refl (λ none. refl) refl
    (λ text good. good)) _ _ _ (no_more c.args.netlist.now out)
    c.in_ok-circuit.ensures.netlist (unknown_is_start c.in_ok-circuit.circuit) (no_vectors c.in_ok-circuit.circuit)
    c.or_no_memory.ensures
    (IfOk-weaker c.write-text.result _ _ (λ text is.
    (out, refl, ap (λ t. make Report out ∷ put Report t ∷ []) is)) c.write-text.ensures)
