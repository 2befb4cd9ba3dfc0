use Rattle.std.proofs.Common.{◌≡◌, ◌≤◌, List, [], ℕ, refl, rules, arith}
use Rattle.std.proofs.lemmas.Result.{IfOk-weaker}
use Rattle.std.specs.Prelude.{None}
use Rattle.ht_app.proofs.Common.{InPort, input_name, order_of}
use Rattle.ht_ports.specs.declared.ports.InPort.TheVariants.{Netlist}
use Rattle.ht_inputs.proofs.ReadingLaws.{basis_of}
use Rattle.ht_net.proofs.MoreToldLaws.{unknown_is_start}
use Rattle.ht_app.proofs.PreparedLaws.{no_vectors, prepares}
use Rattle.ht_app.proofs.synchronize.make_texts.Goals as goal
use Rattle.ht_words.specs.Jobs.{asked_by}
use Rattle.ht_words.specs.declared.job.Job.TheVariants as job_of

no_more : (netlist tests out : List ℕ) (budget : ℕ) (p : InPort)
    → 1 ≤ order_of (asked_by (job_of.Sync netlist tests out budget)) p → input_name
    (asked_by (job_of.Sync netlist tests out budget)) p ≡ None
no_more netlist tests out budget Netlist late = absurd (omega (arith, late))
no_more netlist tests out budget p late = refl

pub returns-in_err-circuit : goal.returns-in_err-circuit
returns-in_err-circuit g c = λ tests out.
    let ends = c.in_err-circuit.ensures.stops (asked_by
    (job_of.Sync c.args.netlist.now tests out c.args.budget)) refl in
    record { made = search rules; stopped = search (rules, ends) }

pub returns : goal.returns
returns g c = λ tests out. prepares (c.in_ok-circuit.ensures.read
    (asked_by (job_of.Sync c.args.netlist.now tests out c.args.budget)) (basis_of c.in_ok-circuit.circuit [] []) refl
    (λ none. refl) refl (λ text good. good)) _ _ _
    (no_more c.args.netlist.now tests out c.args.budget) c.in_ok-circuit.ensures.netlist
    (unknown_is_start c.in_ok-circuit.circuit) (no_vectors c.in_ok-circuit.circuit) c.or_no_memory.ensures
    (IfOk-weaker c.sync_texts-made.result _ _
    (λ texts are. (
      tests,
      refl,
      (out, refl, record { list = _; body = _; said = _; last = _; so = are; acts_are = refl }),
    )) c.sync_texts-made.ensures)
