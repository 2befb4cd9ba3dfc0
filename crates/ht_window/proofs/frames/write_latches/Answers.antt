use Rattle.std.proofs.Common.{◌≡◌, ◌+◌, ◌∙◌, ap, arith, length}
use Rattle.ht_tree.specs.Window.Windows.{first_latch}
use Rattle.ht_tree.proofs.MemberLaws.{listed_by}
use Rattle.ht_window.specs.Cells.{blank}
use Rattle.ht_window.proofs.frames.write_latches.Goals as goal

pub returns : goal.returns
returns c =
    let w = c.args.decisions.now.window in
    let path = c.args.decisions.now.path in
    let t = c.loop-j-test.false in
    let n = c.dffs-j-end.ensures in
    let room = c.requires in
    listed_by (first_latch w w.start path) 0 (length w.circuit.dffs) c.loop-j.latches blank (omega (arith, room))
    (λ k below. let at : k ≡ 0 + k = omega arith in
    c.loop-j.invariant k (omega (arith, t, n, below)) ∙ ap (first_latch w w.start path) at)
