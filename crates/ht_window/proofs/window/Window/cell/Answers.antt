use Rattle.std.proofs.Common.{◌∙◌, ap, arith}
use Rattle.ht_net.specs.Circuit.Netlist.{net_count}
use Rattle.ht_tree.specs.Window.Windows.{cell_at}
use Rattle.ht_window.specs.Matters.{is_relevant}
use Rattle.ht_window.specs.States.{WindowState}
use Rattle.ht_window.proofs.HistoryLaws.{cells_now}
use Rattle.ht_window.proofs.window.Window.cell.Goals as goal

pub returns : goal.returns
returns c =
    let a = c.self.inside in
    let h = a.held in
    let now = cells_now h.standing.window (is_relevant h.relevant) h.standing.path a.marks.items h.cells
    c.self.invariant.history in
    let f = ap (λ (s : WindowState). s.window.frames) c.self.view_is in
    let n = ap (λ (s : WindowState). net_count s.window.circuit) c.self.view_is in
    let fr = c.requires.frame in
    let nr = c.requires.net in
    let m = ap (λ (s : WindowState). is_relevant s.relevant c.args.frame c.args.net.0) c.self.view_is in
    c.cell.ensures ∙ (now.cells c.args.frame c.args.net.0 (omega (arith, f, fr)) (omega (arith, n, nr))
    (m ∙ c.requires.matters) ∙ ap (λ (s : WindowState). cell_at s.window s.decisions c.args.frame c.args.net.0) c.self.view_is)
