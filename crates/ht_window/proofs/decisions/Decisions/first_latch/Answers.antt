use Rattle.std.proofs.Common.{ap, ◌∙◌, sym, arith, get_or, length, Bool, List, false}
use Rattle.ht_window.specs.Starts.{start_of}
use Rattle.ht_window.specs.Standing.{Standing}
use Rattle.ht_window.proofs.StartLaws.{latch_from}
use Rattle.ht_window.proofs.decisions.Decisions.first_latch.Goals as goal

pub returns-in-OneFrame : goal.returns-in-OneFrame
returns-in-OneFrame c =
    let v = c.self.view_is in
    let n = ap (λ (s : Standing). s.window.circuit.inputs) v in
    let m = ap (λ (s : Standing). length s.window.circuit.dffs) v in
    let i = c.inputs.ensures in
    let d = c.dffs.ensures in
    latch_from c.args.self.now c.in-OneFrame.z c.args.j c.latch.result c.is_set-halves.result c.value.result
    c.value-in-OneFrame.result _ _
    (sym (ap (λ (s : Standing). s.window.start) v) ∙ ap start_of c.in-OneFrame.is)
    c.latch.ensures
    (c.is_set-halves.ensures ∙ ap (λ (z : List Bool). get_or z c.args.j false) c.as_slice.ensures)
    c.value.ensures c.value-in-OneFrame.ensures (omega (arith, n, i)) (omega (arith, n, m, i, d))
