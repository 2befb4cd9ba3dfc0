use Rattle.std.proofs.Common.{arith}
use Rattle.ht_tree.specs.Window.Windows.{first_input, input_set}
use Rattle.ht_tree.proofs.MemberLaws.{listed_by}
use Rattle.ht_window.specs.Cells.{blank}
use Rattle.ht_window.proofs.frames.write_inputs.Goals as goal

pub returns : goal.returns
returns c =
    let w = c.args.decisions.now.window in
    let t = c.loop-i-test.false in
    let n = c.inputs-i-end.ensures in
    let room = c.requires.room in
    listed_by (input_set c.args.decisions.now.path) (first_input w c.args.frame) w.circuit.inputs c.loop-i.vector blank
    (omega (arith, room)) (λ k below. c.loop-i.invariant k (omega (arith, t, n, below)))
