use Rattle.std.proofs.Common.{◌≡◌, ◌∙◌, ◌+◌, ◌-◌, ℕ, ap, arith, subst}
use Rattle.ht_net.specs.Circuit.Netlist.{IsCircuit, first_gate_net}
use Rattle.ht_faults.specs.Sites.{data_net}
use Rattle.ht_uninit.specs.Exposed.{AreExposed}
use Rattle.ht_uninit.proofs.ExposedLaws.{input_done, latch_step}
use Rattle.ht_uninit.proofs.exposed.mark_read.Goals as goal

pub returns-then-net-first_gate_net-clause-exposed : goal.returns-then-net-first_gate_net-clause-exposed
returns-then-net-first_gate_net-clause-exposed c = λ mute outputs h.
    let n = c.args.circuit.now in
    let e : c.args.net.0 ≡ first_gate_net n + (c.args.net.0 - (c.inputs-inputs.result + c.dffs.result)) =
    omega (arith, c.inputs-inputs.ensures, c.dffs.ensures, c.if-net-first_gate_net.true) in
    c.in_ok-mark_arguments.ensures.exposed mute outputs
    (subst (λ (y : ℕ). AreExposed n mute outputs c.args.marks.now.items c.args.todo.now.items y 0) e h)

pub returns-then-net-inputs-clause-exposed : goal.returns-then-net-inputs-clause-exposed
returns-then-net-inputs-clause-exposed c = λ mute outputs h.
    let n = c.args.circuit.now in
    let inputs = c.inputs-inputs.ensures in
    let dffs = c.dffs.ensures in
    let high = c.if-net-first_gate_net.false in
    let low = c.if-net-inputs.true in
    let circuit : IsCircuit n = c.nets.ensures.circuit in
    let j : c.args.net.0 - c.inputs-inputs.result ≡ c.args.net.0 - n.inputs = omega (arith, inputs) in
    let at : c.dff_data-data.result.0 ≡ data_net n (c.args.net.0 - n.inputs) =
    (λ k. (c.dff_data-data.ensures k).0) ∙ ap (data_net n) j in
    let known = circuit.data_known (c.args.net.0 - n.inputs) (omega (arith, inputs, dffs, high, low)) in
    let long = c.requires.long in
    latch_step n mute outputs c.args.marks.now.items c.mark.new.marks.items c.args.todo.now.items c.mark.new.todo.items
    c.dff_data-data.result c.in_ok-mark.ensures.marks c.in_ok-mark.ensures.todo (omega (arith, long, known, at))
    c.args.net.0 (omega (arith, inputs, low)) (omega (arith, inputs, dffs, high)) at h

pub returns-clause-exposed : goal.returns-clause-exposed
returns-clause-exposed c = λ mute outputs h.
    let inputs = c.inputs-inputs.ensures in
    let low = c.if-net-inputs.false in
    input_done c.args.circuit.now mute outputs c.args.marks.now.items c.args.todo.now.items c.args.net.0
    (omega (arith, inputs, low)) h
