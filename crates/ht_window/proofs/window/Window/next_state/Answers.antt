use Rattle.std.proofs.Common.{◌≡◌, ◌-◌, ◌∙◌, ap, arith, get_or}
use Rattle.ht_net.specs.Circuit.Netlist.{Netlist, no_net}
use Rattle.ht_tree.specs.Window.Windows.{SearchWindow}
use Rattle.ht_window.specs.Standing.{Standing}
use Rattle.ht_window.specs.States.{WindowState}
use Rattle.ht_window.proofs.LegalLaws.{some_frames}
use Rattle.ht_window.proofs.FollowLaws.{last_latch}
use Rattle.ht_window.proofs.window.Window.next_state.Goals as goal

pub returns : goal.returns
returns c =
    let s = c.args.self.now in
    let d = c.decisions-decisions.ensures in
    let window : c.decisions-decisions.result.now.window ≡ s.window = ap (λ (t : Standing). t.window) d.standing ∙ ap
    (λ (t : WindowState). t.window) c.self.view_is in
    let some = some_frames c.self.inside.held.standing.window d.window in
    let k = ap (λ (t : WindowState). t.window.frames) c.self.view_is in
    let frames = c.frames-last.ensures ∙ ap (λ (w : SearchWindow). w.frames) window in
    let circuit = c.circuit-circuit.ensures.circuit ∙ ap (λ (w : SearchWindow). w.circuit) window in
    last_latch s.window s.decisions (c.frames-last.result - 1) c.args.j c.data_pin.result c.cell.result c.fault.result
    c.dff_data.result (omega (arith, frames, some, k)) c.requires.dff
    c.data_pin.ensures (c.fault.ensures ∙ ap (λ (w : SearchWindow). w.fault) window)
    (c.dff_data.ensures ∙ ap (λ (n : Netlist). get_or n.dffs c.args.j no_net) circuit) c.cell.ensures
