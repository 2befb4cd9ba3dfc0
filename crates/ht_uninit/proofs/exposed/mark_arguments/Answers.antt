use Rattle.std.proofs.Common.{◌≡◌, ◌∙◌, ◌<◌, List, Bool, true, length, get_or, ap, arith}
use Rattle.std.proofs.lemmas.List.{length-set}
use Rattle.ht_net.specs.declared.net.NetId.{NetId}
use Rattle.ht_net.specs.Circuit.Netlist.{IsCircuit, arg_at, gate_at, no_net}
use Rattle.ht_uninit.proofs.ExposedLaws.{argument_step, gate_done, work_step}
use Rattle.ht_uninit.proofs.exposed.mark_arguments.Goals as goal

pub loop-arg-preserved : goal.loop-arg-preserved
loop-arg-preserved c =
    let n = c.args.circuit.now in
    let args = c.gate_args-arg-items.result.now in
    let i = c.loop-arg.arg-index in
    let net : NetId = get_or args i no_net in
    let same : args ≡ (gate_at n c.args.g).args = c.gate_args-arg-items.ensures.args in
    let few = ap (λ (xs : List NetId). length xs) same in
    let test = c.loop-arg-test.true in
    let l : i < length (gate_at n c.args.g).args = omega (arith, few, test) in
    let at : net.0 ≡ arg_at n c.args.g i = ap (λ (xs : List NetId). (get_or xs i no_net).0) same in
    let circuit : IsCircuit n = c.gate_args-arg-items.ensures.circuit in
    let known = circuit.known c.args.g i c.requires.gate l in
    let long = c.loop-arg.invariant.0 in
    let inside : net.0 < length c.loop-arg.marks.items = omega (arith, long, known, at) in
    let marks = c.in_ok-mark.ensures.marks in
    let todo = c.in_ok-mark.ensures.todo in (
      ap (λ (ms : List Bool). length ms) marks ∙ (length-set c.loop-arg.marks.items net.0 true ∙ long),
      λ mute outputs h. argument_step n mute outputs c.loop-arg.marks.items c.mark.new.marks.items c.loop-arg.todo.items
          c.mark.new.todo.items net marks todo inside c.args.g i c.requires.gate l at
          (c.loop-arg.invariant.1 mute outputs h),
      work_step c.loop-arg.marks.items c.mark.new.marks.items c.loop-arg.todo.items c.mark.new.todo.items net marks todo
          inside
          ∙ c.loop-arg.invariant.2,
    )

pub returns-clause-exposed : goal.returns-clause-exposed
returns-clause-exposed c = λ mute outputs h.
    let n = c.args.circuit.now in
    let same = ap (λ (xs : List NetId). length xs) c.gate_args-arg-items.ensures.args in
    let test = c.loop-arg-test.false in
    let end = c.loop-arg.auto.arg-index-end in
    gate_done n mute outputs c.loop-arg.marks.items c.loop-arg.todo.items c.args.g c.loop-arg.arg-index
    (omega (arith, same, test, end)) (c.loop-arg.invariant.1 mute outputs h)
