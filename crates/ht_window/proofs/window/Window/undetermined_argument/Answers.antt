use Rattle.ht_tree.specs.Window.Windows.{cell_at}
use Rattle.ht_window.proofs.ArgumentLaws.{undetermined_single, determined_single, pin_step}
use Rattle.ht_window.proofs.window.Window.undetermined_argument.Goals as goal

pub returns-then-not-is_single : goal.returns-then-not-is_single
returns-then-not-is_single c =
    let s = c.args.self.now in
    let step = pin_step c.circuit.result.now s.window.circuit c.fault-fault.result s.window.fault
    c.gate_args-args.result.now c.args.g c.loop-i.i c.cell.result c.gate_pin-set.result
    (cell_at s.window s.decisions c.args.frame) c.circuit.ensures.circuit c.fault-fault.ensures
    c.gate_args-args.ensures.args c.loop-i-test.true c.cell.ensures c.gate_pin-set.ensures c.loop-i.invariant in
    step.ends (undetermined_single c.gate_pin-set.result c.is_single.result c.is_single.ensures.single
    c.is_single.ensures.nonempty c.if-not-is_single.true)

pub loop-i-preserved : goal.loop-i-preserved
loop-i-preserved c =
    let s = c.args.self.now in
    let set = c.gate_pin-set.result in
    (pin_step c.circuit.result.now s.window.circuit c.fault-fault.result s.window.fault c.gate_args-args.result.now
    c.args.g c.loop-i.i c.cell.result set (cell_at s.window s.decisions c.args.frame) c.circuit.ensures.circuit
    c.fault-fault.ensures c.gate_args-args.ensures.args c.loop-i-test.true c.cell.ensures c.gate_pin-set.ensures
    c.loop-i.invariant).goes_on
    (determined_single set c.is_single.result c.is_single.ensures.single c.if-not-is_single.false)
